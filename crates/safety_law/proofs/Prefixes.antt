-- Prefixes of lists.
use Rattle.std.proofs.Common.{◌≡◌, ◌<◌, ◌≤◌, ℕ, List, [], ◌∷◌, ◌++◌, length, slice_get, Some, refl, sym, ap, subst, arith, append_assoc, append-nil, length-append, ◌∙◌}
use Rattle.std.proofs.lemmas.Option.{same_Some, slice_get_within}
use Rattle.log_base.proofs.Legal.{at_longer}
use Rattle.agreement_law.specs.Elements.{IsPrefix}

module _ {A : Type 0} where
  pub prefix_same : (list : List A) → IsPrefix list list
  prefix_same list = ([], append-nil list)

  pub prefix_is : (list other : List A) → list ≡ other → IsPrefix list other
  prefix_is list other e = ([], append-nil list ∙ e)

  pub prefix_push : (list : List A) (x : A) → IsPrefix list (list ++ x ∷ [])
  prefix_push list x = (x ∷ [], refl)

  pub prefix_length : (front list : List A) → IsPrefix front list → length front ≤ length list
  prefix_length front list p = omega (arith, length-append front p.0, ap length p.1)

  pub prefix_at : (front list : List A) (k : ℕ) (x : A) → IsPrefix front list → slice_get front k ≡ Some x → slice_get list k ≡ Some x
  prefix_at front list k x p e = subst (λ (l : List A). slice_get l k ≡ Some x) p.1 (at_longer front p.0 k x e).0

  pub prefix_more : (front list more : List A) → IsPrefix front list → IsPrefix list more → IsPrefix front more
  prefix_more front list more p q =
      (p.0 ++ q.0, sym (append_assoc front p.0 q.0) ∙ ap (λ (l : List A). l ++ q.0) p.1 ∙ q.1)

  at_end : (front : List A) (x : A) (rest : List A) → slice_get (front ++ x ∷ rest) (length front) ≡ Some x
  at_end [] x rest = refl
  at_end (y ∷ front) x rest = at_end front x rest

  -- a prefix takes the next element
  pub prefix_next : (front list : List A) (x : A) → IsPrefix front list → slice_get list (length front) ≡ Some x → IsPrefix (front ++ x ∷ []) list
  prefix_next front list x ([], is) e =
      let below : length front < length list = slice_get_within list (length front) x e in
      absurd (omega (arith, length-append front [], ap length is))
  prefix_next front list x (y ∷ rest, is) e =
      let found : slice_get (front ++ y ∷ rest) (length front) ≡ Some x = subst (λ (l : List A). slice_get l (length front) ≡ Some x) (sym is) e in
      let same : y ≡ x = same_Some y x (sym (at_end front y rest) ∙ found) in
      subst (λ (z : A). IsPrefix (front ++ z ∷ []) list) same (rest, append_assoc front (y ∷ []) rest ∙ is)
