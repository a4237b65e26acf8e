use Rattle.std.proofs.Common.{◌+◌, ◌≤◌, length, sym, ap, ◌∙◌, arith}
use Rattle.std.proofs.lemmas.List.{drop_all}
use Rattle.log_base.specs.Outside.{Reading}
use Rattle.log_base.proofs.Cuts.{read_splits}
use Rattle.log_base.proofs.sources.MemorySourceSource.read.Goals as goal

-- what is copied is the front of what was left, and nothing is copied only at the end
pub returns-clause-bytes : goal.returns-clause-bytes
returns-clause-bytes c =
    let left = ap (λ (r : Reading). r.left) (sym c.self.view_is) in
    let within : c.self.inside.at + c.min-count.result ≤ length c.self.inside.bytes.items = omega arith in
    let copied = rw c.deref-2.ensures.value at c.copy_from_slice.ensures.after in
    (left ∙ read_splits _ _ _ _ _ within copied, λ none some. drop_all (c.self.inside.at + c.min-count.result) c.self.inside.bytes.items (omega arith))
