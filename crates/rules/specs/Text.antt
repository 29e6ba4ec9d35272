-- A quoted text as the bytes of a line, for the examples.
-- Assumes nothing.
use Rattle.std.specs.Prelude.{List, [], ◌∷◌, ℕ}
use Prim.Native.Char.{code}
use Prim.Native.String.{String, [] as none, ◌∷◌ as ◌then◌}

-- Of a text in ASCII.
abbrev pub bytes : String → List ℕ
bytes none = []
bytes (c then cs) = code c ∷ bytes cs
