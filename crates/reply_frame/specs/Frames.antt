-- Frames: a length of four bytes, a kind, and a body. The length counts the kind and the body.
use Rattle.std.specs.Prelude.{ℕ, ◌+◌, List, ◌∷◌, ◌++◌, length}
use Rattle.log_base.specs.Wide.{be4}

abbrev pub frame : ℕ → List ℕ → List ℕ
frame kind body = be4 (length body + 1) ++ kind ∷ body
