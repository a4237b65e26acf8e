-- The first words of a list of words.
use Rattle.std.proofs.Common.{◌≡◌, ℕ, ◌-◌, ◌<◌, List, [], ◌∷◌, ◌++◌, length, get_or, take, drop, map, refl, sym, ◌∙◌, ap, arith, length-drop}
use Rattle.std.proofs.lemmas.List.{drop-map, take_all}

drop_front : {A : Type 0} (front more : List A) → drop (length front) (front ++ more) ≡ more
drop_front [] more = refl
drop_front (x ∷ front) more = drop_front front more

module _ {A : Type 0} (bytes : A → List ℕ) where
  pub first_word : (words : List A) (word : A) → 0 < length words → word ≡ get_or words 0 word
      → map bytes words ≡ bytes word ∷ map bytes (drop 1 words)
  first_word [] word some is = absurd (omega arith)
  first_word (w ∷ words) word some is = ap (λ (x : A). bytes x ∷ map bytes words) (sym is)

  pub two_words : (words : List A) (word next : A) → 1 < length words → word ≡ get_or words 0 word → next ≡ get_or words 1 next
      → map bytes words ≡ bytes word ∷ bytes next ∷ map bytes (drop 2 words)
  two_words [] word next some is is_next = absurd (omega arith)
  two_words (w ∷ []) word next some is is_next = absurd (omega arith)
  two_words (w ∷ v ∷ words) word next some is is_next = cc

  -- what is left behind the words of a front
  pub words_behind : (words : List A) (count most : ℕ) (front more : List (List ℕ)) → map bytes words ≡ front ++ more → count ≡ length front
      → length words ≡ most → map bytes (take (most - count) (drop count words)) ≡ more
  words_behind words count most front more is long all =
      let rest : length (drop count words) ≡ length words - count = length-drop count words in
      ap (map bytes) (take_all (most - count) (drop count words) (omega arith))
      ∙ sym (drop-map bytes count words)
      ∙ ap (drop count) is
      ∙ ap (λ (n : ℕ). drop n (front ++ more)) long
      ∙ drop_front front more

  pub behind_two : (words : List A) (word next : A) (most : ℕ) → 1 < length words → word ≡ get_or words 0 word → next ≡ get_or words 1 next
      → length words ≡ most → map bytes words ≡ bytes word ∷ bytes next ∷ map bytes (take (most - 2) (drop 2 words))
  behind_two words word next most some is is_next all =
      let two = two_words words word next some is is_next in
      two ∙ ap (λ (rest : List (List ℕ)). bytes word ∷ bytes next ∷ rest)
      (sym (words_behind words 2 most (bytes word ∷ bytes next ∷ []) (map bytes (drop 2 words)) two refl all))
