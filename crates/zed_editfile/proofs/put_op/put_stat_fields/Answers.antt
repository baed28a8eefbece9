use Rattle.std.proofs.Common.{rules, take, drop}
use Rattle.std.specs.List.{flat_map}
use Rattle.zed_editfile.specs.Room.{Appends}
use Rattle.zed_editfile.specs.Spelling.{integer, third_parameter, optional, text_name}
use Rattle.zed_editfile.proofs.Putting.{appends_both}
use Rattle.zed_editfile.proofs.put_op.put_stat_fields.Goals as goal

pub returns : goal.returns
returns c =
    let f = c.args.fields.now in
    let o = c.args.out.now in
    let o1 = c.put_bytes.new.out in
    let o2 = c.put_integers.new.out in
    let o3 = c.put_bytes-2.new.out in
    let o4 = c.put_third_parameter.new.out in
    let o5 = c.put_bytes-3.new.out in
    let o6 = c.put_optional.new.out in
    let place : Appends (take 2 f.bytes) o o1 = search rules in
    let numbers : Appends (flat_map integer f.numbers) o1 o2 = search rules in
    let parameters : Appends (take 2 (drop 2 f.bytes)) o2 o3 = search rules in
    let p3 : Appends (third_parameter f.p3) o3 o4 = search rules in
    let under : Appends (drop 2 (drop 2 f.bytes)) o4 o5 = search rules in
    let text : Appends (optional text_name f.text) o5 o6 = search rules in
    appends_both _ (optional text_name f.text) o o5 o6
    (appends_both _ (drop 2 (drop 2 f.bytes)) o o4 o5
    (appends_both _ (third_parameter f.p3) o o3 o4
    (appends_both _ (take 2 (drop 2 f.bytes)) o o2 o3 (appends_both (take 2 f.bytes) (flat_map integer f.numbers) o o1 o2 place numbers) parameters)
    p3)
    under)
    text
