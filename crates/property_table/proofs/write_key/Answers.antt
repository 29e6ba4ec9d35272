-- `property_table::write_key` meets its contract. Assumes nothing.
use mathlib.Core.Path.{ap}
use native.Mathlib.Omega.{arith}
use lib.ListN.{length}
use Rattle.property_table.specs.KeyLists.{of_kind, key_written}
use Rattle.property_table.proofs.write_key.Goals as goal

pub returns : goal.returns
returns c =
    let args = c.args in
    let if1 = c.if-key-kind in
    let one = ap length (of_kind args.kind args.key if1.false) in
    let both = key_written args.kind args.key args.out.now args.at if1.false (omega arith) in
    record { value = both.0; out_after = both.1 }
