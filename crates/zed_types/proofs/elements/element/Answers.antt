use Rattle.std.proofs.Common.{refl}
use Rattle.zed_types.proofs.elements.element.Goals as goal

-- the table as it is in the code is the table of the definition, row by row
pub row_at-requires : goal.row_at-requires
row_at-requires c = (
  record { word = refl; character = refl; walkable = refl; push = refl; destructible = refl },
  (
    record { word = refl; character = refl; walkable = refl; push = refl; destructible = refl },
    (
      record { word = refl; character = refl; walkable = refl; push = refl; destructible = refl },
      (
        record { word = refl; character = refl; walkable = refl; push = refl; destructible = refl },
        (
          record { word = refl; character = refl; walkable = refl; push = refl; destructible = refl },
          (
            record { word = refl; character = refl; walkable = refl; push = refl; destructible = refl },
            (
              record { word = refl; character = refl; walkable = refl; push = refl; destructible = refl },
              (
                record { word = refl; character = refl; walkable = refl; push = refl; destructible = refl },
                (
                  record { word = refl; character = refl; walkable = refl; push = refl; destructible = refl },
                  (
                    record { word = refl; character = refl; walkable = refl; push = refl; destructible = refl },
                    (
                      record { word = refl; character = refl; walkable = refl; push = refl; destructible = refl },
                      (
                        record { word = refl; character = refl; walkable = refl; push = refl; destructible = refl },
                        (
                          record { word = refl; character = refl; walkable = refl; push = refl; destructible = refl },
                          (
                            record { word = refl; character = refl; walkable = refl; push = refl; destructible = refl },
                            (
                              record { word = refl; character = refl; walkable = refl; push = refl; destructible = refl },
                              (
                                record { word = refl; character = refl; walkable = refl; push = refl; destructible = refl },
                                (
                                  record { word = refl; character = refl; walkable = refl; push = refl; destructible = refl },
                                  (
                                    record { word = refl; character = refl; walkable = refl; push = refl; destructible = refl },
                                    (
                                      record { word = refl; character = refl; walkable = refl; push = refl; destructible = refl },
                                      (
                                        record { word = refl; character = refl; walkable = refl; push = refl; destructible = refl },
                                        (
                                          record { word = refl; character = refl; walkable = refl; push = refl; destructible = refl },
                                          (
                                            record { word = refl; character = refl; walkable = refl; push = refl; destructible = refl },
                                            (
                                              record { word = refl; character = refl; walkable = refl; push = refl; destructible = refl },
                                              (
                                                record { word = refl; character = refl; walkable = refl; push = refl; destructible = refl },
                                                (
                                                  record { word = refl; character = refl; walkable = refl; push = refl; destructible = refl },
                                                  (
                                                    record { word = refl; character = refl; walkable = refl; push = refl; destructible = refl },
                                                    (
                                                      record { word = refl; character = refl; walkable = refl; push = refl; destructible = refl },
                                                      (
                                                        record { word = refl; character = refl; walkable = refl; push = refl; destructible = refl },
                                                        (
                                                          record { word = refl; character = refl; walkable = refl; push = refl; destructible = refl },
                                                          (
                                                            record { word = refl; character = refl; walkable = refl; push = refl; destructible = refl },
                                                            (
                                                              record { word = refl; character = refl; walkable = refl; push = refl; destructible = refl },
                                                              (
                                                                record { word = refl; character = refl; walkable = refl; push = refl; destructible = refl },
                                                                (
                                                                  record { word = refl; character = refl; walkable = refl; push = refl; destructible = refl },
                                                                  (
                                                                    record { word = refl; character = refl; walkable = refl; push = refl; destructible = refl },
                                                                    (
                                                                      record { word = refl; character = refl; walkable = refl; push = refl; destructible = refl },
                                                                      (
                                                                        record { word = refl; character = refl; walkable = refl; push = refl; destructible = refl },
                                                                        (
                                                                          record { word = refl; character = refl; walkable = refl; push = refl; destructible = refl },
                                                                          (
                                                                            record { word = refl; character = refl; walkable = refl; push = refl; destructible = refl },
                                                                            (
                                                                              record { word = refl; character = refl; walkable = refl; push = refl; destructible = refl },
                                                                              (
                                                                                record { word = refl; character = refl; walkable = refl; push = refl; destructible = refl },
                                                                                (
                                                                                  record { word = refl; character = refl; walkable = refl; push = refl; destructible = refl },
                                                                                  (
                                                                                    record { word = refl; character = refl; walkable = refl; push = refl; destructible = refl },
                                                                                    (
                                                                                      record { word = refl; character = refl; walkable = refl; push = refl; destructible = refl },
                                                                                      (
                                                                                        record { word = refl; character = refl; walkable = refl; push = refl; destructible = refl },
                                                                                        (
                                                                                          record { word = refl; character = refl; walkable = refl; push = refl; destructible = refl },
                                                                                          (
                                                                                            record { word = refl; character = refl; walkable = refl; push = refl; destructible = refl },
                                                                                            (
                                                                                              record { word = refl; character = refl; walkable = refl; push = refl; destructible = refl },
                                                                                              (
                                                                                                record { word = refl; character = refl; walkable = refl; push = refl; destructible = refl },
                                                                                                (
                                                                                                  record { word = refl; character = refl; walkable = refl; push = refl; destructible = refl },
                                                                                                  (
                                                                                                    record { word = refl; character = refl; walkable = refl; push = refl; destructible = refl },
                                                                                                    (
                                                                                                      record { word = refl; character = refl; walkable = refl; push = refl; destructible = refl },
                                                                                                      (
                                                                                                        record { word = refl; character = refl; walkable = refl; push = refl; destructible = refl },
                                                                                                        (
                                                                                                          record { word = refl; character = refl; walkable = refl; push = refl; destructible = refl },
                                                                                                          (
                                                                                                            record { word = refl; character = refl; walkable = refl; push = refl; destructible = refl },
                                                                                                            tt,
                                                                                                          ),
                                                                                                        ),
                                                                                                      ),
                                                                                                    ),
                                                                                                  ),
                                                                                                ),
                                                                                              ),
                                                                                            ),
                                                                                          ),
                                                                                        ),
                                                                                      ),
                                                                                    ),
                                                                                  ),
                                                                                ),
                                                                              ),
                                                                            ),
                                                                          ),
                                                                        ),
                                                                      ),
                                                                    ),
                                                                  ),
                                                                ),
                                                              ),
                                                            ),
                                                          ),
                                                        ),
                                                      ),
                                                    ),
                                                  ),
                                                ),
                                              ),
                                            ),
                                          ),
                                        ),
                                      ),
                                    ),
                                  ),
                                ),
                              ),
                            ),
                          ),
                        ),
                      ),
                    ),
                  ),
                ),
              ),
            ),
          ),
        ),
      ),
    ),
  ),
)
