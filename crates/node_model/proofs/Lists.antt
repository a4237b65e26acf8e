-- The list of a segment, once an entry is put into one of the lists.
use Rattle.std.proofs.Common.{◌≡◌, ◌≢◌, ℕ, zero, suc, ◌<◌, ◌≤◌, List, [], ◌∷◌, ◌++◌, length, get_or, refl, sym, arith, ◌∙◌}
use Rattle.std.proofs.lemmas.List.{get_or-set_same, get_or-set_other, length-set}
use Rattle.log_model.specs.Storage.{list_in, with_entry}
use Rattle.record_frame.specs.declared.entries.Entry.{Entry}

list_in-get_or : (lists : List (List Entry)) (segment : ℕ) → list_in lists segment ≡ get_or lists segment []
list_in-get_or [] segment = refl
list_in-get_or (list ∷ lists) zero = refl
list_in-get_or (list ∷ lists) (suc segment) = list_in-get_or lists segment

-- the list that was put to
pub list_in-same : (lists : List (List Entry)) (segment : ℕ) (entry : Entry) → segment < length lists
    → list_in (with_entry lists segment entry) segment ≡ list_in lists segment ++ entry ∷ []
list_in-same lists segment entry within =
    list_in-get_or (with_entry lists segment entry) segment
    ∙ get_or-set_same lists segment (list_in lists segment ++ entry ∷ []) [] within

-- any other list
pub list_in-other : (lists : List (List Entry)) (segment other : ℕ) (entry : Entry) → other ≢ segment
    → list_in (with_entry lists segment entry) other ≡ list_in lists other
list_in-other lists segment other entry differ =
    list_in-get_or (with_entry lists segment entry) other
    ∙ get_or-set_other lists segment other (list_in lists segment ++ entry ∷ []) [] differ
    ∙ sym (list_in-get_or lists other)

pub length-with_entry : (lists : List (List Entry)) (segment : ℕ) (entry : Entry) → length (with_entry lists segment entry) ≡ length lists
length-with_entry lists segment entry = length-set lists segment (list_in lists segment ++ entry ∷ [])

-- past the last list there is none
pub list_in-past : (lists : List (List Entry)) (segment : ℕ) → length lists ≤ segment → list_in lists segment ≡ []
list_in-past [] segment past = refl
list_in-past (list ∷ lists) zero past = absurd (omega arith)
list_in-past (list ∷ lists) (suc segment) past = list_in-past lists segment (omega arith)
