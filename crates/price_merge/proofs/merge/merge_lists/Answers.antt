-- Three ways out, each a law of MergeLaws.
use mathlib.Core.Path.{refl}
use Rattle.std.proofs.lemmas.Result.{err_from_is_err_and}
use Rattle.price_list.specs.Reads.{reading_told}
use Rattle.price_list.specs.Writes.{writing_told}
use Rattle.price_merge.proofs.MergeLaws.{school_list_refused, shipped_list_refused, rows_room, both_read, read_ok_told, school_told, shipped_told, written_told}
use Rattle.price_merge.proofs.merge.merge_lists.Goals as goal

pub returns-in_err-map_err : goal.returns-in_err-map_err
returns-in_err-map_err c =
    let p = err_from_is_err_and c.from_residual.result c.from_residual.ensures.1 in
    let x = c.read_prices in
    let t = school_told x.result _ c.in_err-map_err.ensures.cases in
    rw (p.1, p.2, t.1) (school_list_refused c.args.shipped.now c.args.out.now (reading_told x.result) x.ensures refl t.0)

pub returns-in_err-map_err-2 : goal.returns-in_err-map_err-2
returns-in_err-map_err-2 c =
    let p = err_from_is_err_and c.from_residual-in_err-map_err-2.result c.from_residual-in_err-map_err-2.ensures.1 in
    let x = c.read_prices in
    let y = c.read_prices-2 in
    let z = read_ok_told x.result c.in_ok-map_err.ensures.variant in
    let t = shipped_told y.result _ c.in_err-map_err-2.ensures.cases in
    rw (p.1, p.2, t.1) (shipped_list_refused c.args.shipped.now c.args.out.now (reading_told x.result) x.ensures refl z (reading_told y.result) y.ensures refl t.0)

pub put_rows-requires : goal.put_rows-requires
put_rows-requires c =
    let x = c.read_prices in
    let y = c.read_prices-2 in
    let z = read_ok_told x.result c.in_ok-map_err.ensures.variant in
    rows_room c.args.shipped.now c.args.out.now (reading_told x.result) x.ensures refl z (reading_told y.result) y.ensures refl
    (read_ok_told y.result c.in_ok-map_err-2.ensures.variant) _ refl

pub returns : goal.returns
returns c =
    let x = c.read_prices in
    let y = c.read_prices-2 in
    let z = read_ok_told x.result c.in_ok-map_err.ensures.variant in
    let w = c.write_prices in
    rw (written_told w.result c.map_err-3.result c.map_err-3.ensures.cases) (both_read c.args.shipped.now c.args.out.now (reading_told x.result) x.ensures refl z (reading_told y.result) y.ensures refl
    (read_ok_told y.result c.in_ok-map_err-2.ensures.variant) (writing_told w.result) c.put_rows.ensures w.ensures.result w.ensures.buffer)
