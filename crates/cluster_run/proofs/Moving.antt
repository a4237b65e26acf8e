-- Elements are moved from a list behind others.
use Rattle.std.proofs.Common.{◌≡◌, ◌<◌, ◌≤◌, ℕ, suc, ◌+◌, ◌-◌, List, [], ◌∷◌, ◌++◌, drop, length, map, take, sym, ap, ◌∙◌, append_assoc, arith}
use Rattle.std.proofs.lemmas.List.{append-nil, nil_from_length}
use Rattle.cluster_run.specs.Numbers.{numbered_from}

-- one more is moved from what is left behind what is there
pub moved : {X Y : Type 0} (f : X → Y) (before after all : List Y) (x : X) (rest left : List X) → before ++ map f rest ≡ all → rest ≡ x ∷ left → after ≡ before ++ f x ∷ [] → after ++ map f left ≡ all
moved f before after all x rest left was step put =
    ap (λ l. l ++ map f left) put ∙ (append_assoc before (f x ∷ []) (map f left) ∙ (ap (λ l. before ++ map f l) (sym step) ∙ was))

pub none_left : {X Y : Type 0} (there : List Y) (f : List X → List Y) (rest : List X) (all : List Y) → f [] ≡ [] → there ++ f rest ≡ all → length rest ≡ 0 → there ≡ all
none_left there f rest all nothing was none =
    sym (append-nil there) ∙ (ap (λ l. there ++ l) (sym nothing) ∙ (ap (λ l. there ++ f l) (sym (nil_from_length rest none)) ∙ was))

-- one of the first is moved behind its number
pub moved_first : {T : Type 0} (before after all : List (ℕ × T)) (count number next : ℕ) (x : T) (rest left : List T) → number < count → next ≡ number + 1
    → before ++ numbered_from number (take (count - number) rest) ≡ all → rest ≡ x ∷ left → after ≡ before ++ (number, x) ∷ []
    → after ++ numbered_from next (take (count - next) left) ≡ all
moved_first before after all count number next x rest left below up was step put =
    let size : count - number ≡ suc (count - next) = omega arith in
    let succ : suc number ≡ next = omega arith in
    let front : numbered_from number (take (count - number) rest) ≡ (number, x) ∷ numbered_from next (take (count - next) left)
    = (λ i. numbered_from number (take (size i) (step i))) ∙ (λ i. (number, x) ∷ numbered_from (succ i) (take (count - next) left)) in
    ap (λ l. l ++ numbered_from next (take (count - next) left)) put
    ∙ (append_assoc before ((number, x) ∷ []) (numbered_from next (take (count - next) left)) ∙ (ap (λ l. before ++ l) (sym front) ∙ was))

-- and leaves the others
pub left_others : {T : Type 0} (others all : List T) (count number next : ℕ) (x : T) (rest left : List T) → number < count → next ≡ number + 1
    → others ++ drop (count - number) rest ≡ all → rest ≡ x ∷ left → others ++ drop (count - next) left ≡ all
left_others others all count number next x rest left below up was step =
    let size : count - number ≡ suc (count - next) = omega arith in
    (λ i. others ++ drop (sym size i) (sym step i)) ∙ was

-- one of the others is moved
pub moved_other : {T : Type 0} (before after all : List T) (count number : ℕ) (x : T) (rest left : List T) → count ≤ number
    → before ++ drop (count - number) rest ≡ all → rest ≡ x ∷ left → after ≡ before ++ x ∷ [] → after ++ drop (count - number) left ≡ all
moved_other before after all count number x rest left past was step put =
    let none : count - number ≡ 0 = omega arith in
    (λ i. put i ++ drop (none i) left) ∙ (append_assoc before (x ∷ []) left ∙ ((λ i. before ++ drop (sym none i) (sym step i)) ∙ was))

pub kept_first : {T : Type 0} (first all : List (ℕ × T)) (count number : ℕ) (rest left : List T) → count ≤ number
    → first ++ numbered_from number (take (count - number) rest) ≡ all → first ++ numbered_from number (take (count - number) left) ≡ all
kept_first first all count number rest left past was =
    let none : count - number ≡ 0 = omega arith in
    (λ i. first ++ numbered_from number (take (none i) left)) ∙ ((λ i. first ++ numbered_from number (take (sym none i) rest)) ∙ was)
