-- Clauses of outcomes.
use Rattle.std.proofs.lemmas.Option.{none-some}
use Rattle.std.proofs.Common.{◌≡◌, Option, Some, None, Result, Ok, Err, IfErr, IfOk, IfSome, ◌≢◌, refl, sym, ◌∙◌, subst}

pub with_ok : {T E : Type 0} (Q : T → Type 0) (r : Result T E) → ((x : T) → r ≡ Ok x → Q x) → IfOk r Q
with_ok Q (Ok x) h = h x refl
with_ok Q (Err e) h = tt

pub with_err : {T E : Type 0} (Q : E → Type 0) (r : Result T E) → ((e : E) → r ≡ Err e → Q e) → IfErr r Q
with_err Q (Ok x) h = tt
with_err Q (Err e) h = h e refl

pub ok_at : {T E : Type 0} (P : T → Type 0) (r : Result T E) (x : T) → IfOk r P → r ≡ Ok x → P x
ok_at {T} {E} P r x h is = subst (λ (o : Result T E). IfOk o P) is h

pub err_at : {T E : Type 0} (P : E → Type 0) (r : Result T E) (e : E) → IfErr r P → r ≡ Err e → P e
err_at {T} {E} P r e h is = subst (λ (o : Result T E). IfErr o P) is h

-- what is no error is a value
pub came : {T E : Type 0} (r : Result T E) → IfErr r (λ (e : E). ⊥) → (x : T) × (r ≡ Ok x)
came (Ok x) h = (x, refl)
came (Err e) h = absurd h

pub some_so : {T : Type 0} (P Q : T → Type 0) (o : Option T) → IfSome o P → ((x : T) → P x → Q x) → IfSome o Q
some_so P Q None h so = tt
some_so P Q (Some x) h so = so x h

pub at_some : {T S : Type 0} (P : T → S → Type 0) (o : Option T) (x : T) (s t : S) → o ≡ Some x → s ≡ t → P x t → IfSome o (λ (y : T). P y s)
at_some {T} {S} P o x s t is same h = subst (λ (w : Option T × S). IfSome w.0 (λ (y : T). P y w.1)) (λ i. (sym is i, sym same i)) h

pub not_none : {T : Type 0} (o : Option T) (x : T) → o ≡ Some x → o ≢ None
not_none o x is none = none-some x (sym none ∙ is)
