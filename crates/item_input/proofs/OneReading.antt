-- An input reads in one way.
use Rattle.std.proofs.Common.{◌≡◌, ℕ, ◌+◌, ◌<◌, List, [], ◌∷◌, ◌++◌, length, Some, None, refl, sym, ap, ◌∙◌, append_assoc, subst, arith, length-append}
use Rattle.std.proofs.lemmas.Bool.Decides.{nat_tests}
use Rattle.std.specs.List.{flat_map, AllByRecursion}
use Rattle.log_base.specs.Wide.{be4}
use Rattle.log_base.specs.ClusterShape.{Shape}
use Rattle.command_frame.specs.declared.items.Item.{Item}
use Rattle.command_frame.specs.Items.{Counts, none_yet, counted, passed_limit, item_kind, item_body, item_spelling, IsItem, IsNoFault}
use Rattle.command_frame.specs.Reader.{NoItem}
use Rattle.item_input.specs.Input.{counts_from, Ending, Whole, BadPlace, TooMany, EndsAs, ReadsAs}
use Rattle.item_input.specs.Plain.{EndsPlainAs, IsFaultLine, PlainEnding, Ends, FaultLine, ReadsPlain}

-- no spelling of an item begins another
abbrev pub OneItem : Shape → Type 0
OneItem shape = (item other : Item) (rest more : List ℕ) → IsItem shape item → IsItem shape other
    → item_spelling item ++ rest ≡ item_spelling other ++ more → (item ≡ other) × (rest ≡ more)

-- the front of the limits: what is passed stays passed
passed-counted : (counts : Counts) (item : Item) → passed_limit (counted counts item) ≡ None → passed_limit counts ≡ None
passed-counted counts item e = grind (arith, nat_tests)

-- with more items within the limits, the first are within them
pub within-first : (counts : Counts) (items : List Item) → passed_limit (counts_from counts items) ≡ None → passed_limit counts ≡ None
within-first counts [] e = e
within-first counts (item ∷ items) e = passed-counted counts item (within-first (counted counts item) items e)

-- what begins with an item has an item
some_item : (shape : Shape) (item : Item) (more bytes : List ℕ) → IsItem shape item → bytes ≡ item_spelling item ++ more → NoItem shape (Some bytes) → ⊥
some_item shape item more bytes is e none = none.1 item more is e

-- a spelling is not empty
spelling_not_empty : (item : Item) (more : List ℕ) → [] ≡ item_spelling item ++ more → ⊥
spelling_not_empty item more e =
    let size = length-append (be4 (length (item_body item) + 1)) (item_kind item ∷ item_body item) in
    let all = length-append (item_spelling item) more in
    omega (arith, size, all, ap length e)

-- nothing follows within the limits where the ending stands, but an ending
no_item_follows : (shape : Shape) → OneItem shape → (counts : Counts) (ending : Ending) (item : Item) (more rest : List ℕ)
    → IsItem shape item → passed_limit (counted counts item) ≡ None → rest ≡ item_spelling item ++ more → EndsAs shape counts ending rest → ⊥
no_item_follows shape one counts Whole item more rest is within e ends = spelling_not_empty item more (sym ends ∙ e)
no_item_follows shape one counts BadPlace item more rest is within e ends = some_item shape item more rest is e ends
no_item_follows shape one counts (TooMany cause) item more rest is within e ends =
    let same = one ends.0 item ends.1 more ends.2 is (sym ends.3 ∙ e) in
    let passed : passed_limit (counted counts item) ≡ Some cause = ap (λ (i : Item). passed_limit (counted counts i)) (sym same.0) ∙ ends.4 in
    cc

-- a rest has one ending
one_ending : (shape : Shape) → OneItem shape → (counts : Counts) (ending other : Ending) (rest : List ℕ)
    → EndsAs shape counts ending rest → EndsAs shape counts other rest → ending ≡ other
one_ending shape one counts Whole Whole rest a b = refl
one_ending shape one counts Whole BadPlace rest a b = let some : 0 < length rest = b.0 in absurd (omega (arith, ap length a))
one_ending shape one counts Whole (TooMany cause) rest a b = absurd (spelling_not_empty b.0 b.1 (sym a ∙ b.3))
one_ending shape one counts BadPlace Whole rest a b = let some : 0 < length rest = a.0 in absurd (omega (arith, ap length b))
one_ending shape one counts BadPlace BadPlace rest a b = refl
one_ending shape one counts BadPlace (TooMany cause) rest a b = absurd (some_item shape b.0 b.1 rest b.2 b.3 a)
one_ending shape one counts (TooMany cause) Whole rest a b = absurd (spelling_not_empty a.0 a.1 (sym b ∙ a.3))
one_ending shape one counts (TooMany cause) BadPlace rest a b = absurd (some_item shape a.0 a.1 rest a.2 a.3 b)
one_ending shape one counts (TooMany cause) (TooMany other) rest a b =
    let same = one a.0 b.0 a.1 b.1 a.2 b.2 (sym a.3 ∙ b.3) in
    let causes : Some cause ≡ Some other = sym a.4 ∙ ap (λ (i : Item). passed_limit (counted counts i)) same.0 ∙ b.4 in
    cc

-- the items that a list of bytes begins with and the ending behind them are one, where items are such and endings are
module _ (shape : Shape) (one : OneItem shape) (Such : Item → Type 0) (E : Type 0) (Ends : Counts → E → List ℕ → Type 0)
    (none_follows : (counts : Counts) (ending : E) (item : Item) (more rest : List ℕ) → IsItem shape item → Such item → passed_limit (counted counts item) ≡ None
    → rest ≡ item_spelling item ++ more → Ends counts ending rest → ⊥)
    (one_end : (counts : Counts) (ending other : E) (rest : List ℕ) → Ends counts ending rest → Ends counts other rest → ending ≡ other) where
  reads_once : (counts : Counts) (items others : List Item) (ending other : E) (rest more : List ℕ)
      → AllByRecursion (IsItem shape) items → AllByRecursion (IsItem shape) others → AllByRecursion Such items → AllByRecursion Such others
      → passed_limit (counts_from counts items) ≡ None → passed_limit (counts_from counts others) ≡ None
      → flat_map item_spelling items ++ rest ≡ flat_map item_spelling others ++ more
      → Ends (counts_from counts items) ending rest → Ends (counts_from counts others) other more
      → (items ≡ others) × (ending ≡ other)
  reads_once counts [] [] ending other rest more each each' such such' within within' e a b =
      (refl, one_end counts ending other rest a (subst (Ends counts other) (sym e) b))
  reads_once counts [] (item ∷ others) ending other rest more each each' such such' within within' e a b =
      absurd (none_follows counts ending item (flat_map item_spelling others ++ more) rest each'.0 such'.0
      (within-first (counted counts item) others within') (e ∙ append_assoc (item_spelling item) (flat_map item_spelling others) more) a)
  reads_once counts (item ∷ items) [] ending other rest more each each' such such' within within' e a b =
      absurd (none_follows counts other item (flat_map item_spelling items ++ rest) more each.0 such.0
      (within-first (counted counts item) items within) (sym e ∙ append_assoc (item_spelling item) (flat_map item_spelling items) rest) b)
  reads_once counts (item ∷ items) (first ∷ others) ending other rest more each each' such such' within within' e a b =
      let same = one item first (flat_map item_spelling items ++ rest) (flat_map item_spelling others ++ more) each.0 each'.0
      (sym (append_assoc (item_spelling item) (flat_map item_spelling items) rest) ∙ e ∙ append_assoc (item_spelling first) (flat_map item_spelling others) more) in
      let within_others = subst (λ (i : Item). passed_limit (counts_from (counted counts i) others) ≡ None) (sym same.0) within' in
      let ends_other = subst (λ (i : Item). Ends (counts_from (counted counts i) others) other more) (sym same.0) b in
      let rest_same = reads_once (counted counts item) items others ending other rest more each.1 each'.1 such.1 such'.1 within within_others same.1 a ends_other in
      let heads = same.0 in
      let tails = rest_same.0 in
      (cc, rest_same.1)

-- ---- an input

-- any item is an item
abbrev IsAny : Item → Type 0
IsAny item = Unit {0}

are_any : (items : List Item) → AllByRecursion IsAny items
are_any [] = tt
are_any (item ∷ items) = (tt, are_any items)

pub reads_one_way : (shape : Shape) → OneItem shape → (bytes : List ℕ) (items others : List Item) (ending other : Ending)
    → ReadsAs shape (Some bytes) items ending → ReadsAs shape (Some bytes) others other → (items ≡ others) × (ending ≡ other)
reads_one_way shape one bytes items others ending other a b =
    reads_once shape one IsAny Ending (EndsAs shape) (λ counts end item more rest is any. no_item_follows shape one counts end item more rest is) (one_ending shape one)
    none_yet items others ending other a.bytes.0 b.bytes.0 a.each b.each (are_any items) (are_any others) a.within b.within (sym a.bytes.1 ∙ b.bytes.1) a.bytes.2 b.bytes.2

-- ---- an input without lines of the fault script

-- no other item follows within the limits where such an ending stands
no_plain_follows : (shape : Shape) → OneItem shape → (counts : Counts) (ending : PlainEnding) (item : Item) (more rest : List ℕ)
    → IsItem shape item → IsNoFault item → passed_limit (counted counts item) ≡ None → rest ≡ item_spelling item ++ more → EndsPlainAs shape counts ending rest → ⊥
no_plain_follows shape one counts (Ends ending) item more rest is plain within e ends = no_item_follows shape one counts ending item more rest is within e ends
no_plain_follows shape one counts FaultLine item more rest is plain within e ends =
    let same = one item ends.item more ends.more is ends.is_item (sym e ∙ ends.bytes) in
    ends.is_fault (subst IsNoFault same.0 plain)

-- a line of the fault script is no other ending
not_fault_line : (shape : Shape) → OneItem shape → (counts : Counts) (ending : Ending) (rest : List ℕ) → EndsAs shape counts ending rest → IsFaultLine shape counts rest → ⊥
not_fault_line shape one counts ending rest ends line =
    no_item_follows shape one counts ending line.item line.more rest line.is_item line.within line.bytes ends

one_plain_ending : (shape : Shape) → OneItem shape → (counts : Counts) (ending other : PlainEnding) (rest : List ℕ)
    → EndsPlainAs shape counts ending rest → EndsPlainAs shape counts other rest → ending ≡ other
one_plain_ending shape one counts (Ends ending) (Ends other) rest a b = ap Ends (one_ending shape one counts ending other rest a b)
one_plain_ending shape one counts (Ends ending) FaultLine rest a b = absurd (not_fault_line shape one counts ending rest a b)
one_plain_ending shape one counts FaultLine (Ends other) rest a b = absurd (not_fault_line shape one counts other rest b a)
one_plain_ending shape one counts FaultLine FaultLine rest a b = refl

pub plain_one_way : (shape : Shape) → OneItem shape → (bytes : List ℕ) (items others : List Item) (ending other : PlainEnding)
    → ReadsPlain shape (Some bytes) items ending → ReadsPlain shape (Some bytes) others other → (items ≡ others) × (ending ≡ other)
plain_one_way shape one bytes items others ending other a b =
    reads_once shape one IsNoFault PlainEnding (EndsPlainAs shape) (no_plain_follows shape one) (one_plain_ending shape one)
    none_yet items others ending other a.bytes.0 b.bytes.0 a.each b.each a.plain b.plain a.within b.within (sym a.bytes.1 ∙ b.bytes.1) a.bytes.2 b.bytes.2
