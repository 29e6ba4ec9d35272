-- What the code's answers say, in the words of document 01's runner.
-- Assumes nothing.
use Rattle.std.specs.Prelude.{List, [], ◌∷◌, ℕ, None, Option as Maybe, Some}
use Rattle.std.proofs.Math.Option.{Option, none, some}
use Rattle.rules.specs.Calls.{Call, new_root, new_unique, insert_key, change_key, remove_key, change_prototype}
use Rattle.rules.specs.Calls.{release, sweep}
use Rattle.lines.specs.declared.Command.{Command}
use Rattle.lines.specs.declared.Command.TheVariants.{Root, Unique, Insert, Change, Remove, Prototype}
use Rattle.lines.specs.declared.Command.TheVariants.{Release, Sweep, BadLine}
use Rattle.lines.specs.declared.reading.Numbers.{Numbers}
use Rattle.lines.specs.declared.reading.Numbers.TheVariants.{Zero, One, Two, Three}

-- The call that a line asks for, none of a bad line.
abbrev pub command_call : Command → Option Call
command_call Root = some new_root
command_call Unique = some new_unique
command_call (Insert c) = some (insert_key c.shape c.key c.attributes)
command_call (Change c) = some (change_key c.shape c.key c.attributes)
command_call (Remove k) = some (remove_key k.shape k.key)
command_call (Prototype p) = some (change_prototype p.shape p.to)
command_call (Release shape) = some (release shape)
command_call Sweep = some sweep
command_call BadLine = none

-- The numbers that were read.
abbrev pub numbers_list : Numbers → List ℕ
numbers_list Zero = []
numbers_list (One a) = a ∷ []
numbers_list (Two a b) = a ∷ b ∷ []
numbers_list (Three a b c) = a ∷ b ∷ c ∷ []

abbrev pub listed : Maybe Numbers → Option (List ℕ)
listed (Some ns) = some (numbers_list ns)
listed None = none
