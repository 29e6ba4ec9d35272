-- `sound_shapes::codes::write_codes` meets its contract. Assumes nothing.
use lib.ListN.{length}
use Rattle.store.specs.Layout.{parse}
use Rattle.distinct.specs.Written.{Written}
use Rattle.sound_shapes.specs.Codes.{edge_codes}
use Rattle.sound_shapes.proofs.codes.write_codes.Given as goal

abbrev pub invariant-loop-done : goal.invariant-loop-done
invariant-loop-done l = Written (edge_codes 1 (parse l.image).edges) (length l.initial.codes) l.done l.codes
