-- What the bytes of a frame say, whatever follows it.
use Rattle.std.proofs.Common.{◌≡◌, ℕ, ◌+◌, ◌<◌, ◌≤◌, ◌^◌, ◌⊎◌, List, [], ◌∷◌, ◌++◌, length, take, drop, get_or, Option, Some, None, refl, sym, ap, ◌∙◌, subst, append_assoc, append-nil, length-append, arith}
use Rattle.std.proofs.lemmas.List.{take_at, drop_at, take_all, get_or-take}
use Rattle.std.proofs.KnownBytes.{Consumes-trans}
use Rattle.std.specs.Io.KnownBytes.{Consumes, IsAtEnd}
use Rattle.log_base.specs.Wide.{IsBytes, be4, number4}
use Rattle.log_base.proofs.Wide.{length-be4, number4-be4, be4-number4}
use Rattle.reply_frame.specs.Frames.{frame}
use Rattle.history_frame.specs.declared.pieces.Piece.{Piece}
use Rattle.history_frame.specs.declared.stages.Stage.{Stage}
use Rattle.history_frame.specs.Frames.{Means, Spells, IsNone}
use Rattle.history_frame.specs.Reader.{NoPiece, HasBytes, FrameRead}

-- ---- the parts of a frame

frame-number : (kind : ℕ) (body rest : List ℕ) → length body + 1 < 2 ^ 32 → number4 (frame kind body ++ rest) 0 ≡ length body + 1
frame-number kind body rest fits =
    ap (λ (l : List ℕ). number4 l 0) (append_assoc (be4 (length body + 1)) (kind ∷ body) rest)
    ∙ number4-be4 (length body + 1) 0 [] (kind ∷ body ++ rest) refl fits

frame-behind : (kind : ℕ) (body rest : List ℕ) → drop 4 (frame kind body ++ rest) ≡ kind ∷ body ++ rest
unfolding be4
frame-behind kind body rest = refl

-- bytes that begin with a frame
record Begins (bytes : List ℕ) (kind : ℕ) (body rest : List ℕ) : Type 0 where
  number : number4 bytes 0 ≡ length body + 1
  behind : drop 4 bytes ≡ kind ∷ body ++ rest
  size : length bytes ≡ length body + 5 + length rest

begins : (bytes : List ℕ) (kind : ℕ) (body text rest : List ℕ) → length body + 1 ≤ 2097152 → text ≡ frame kind body → bytes ≡ text ++ rest → Begins bytes kind body rest
begins bytes kind body text rest small is e =
    let whole : bytes ≡ frame kind body ++ rest = e ∙ ap (λ (l : List ℕ). l ++ rest) is in
    record {
      number = ap (λ (l : List ℕ). number4 l 0) whole ∙ frame-number kind body rest (omega arith);
      behind = ap (drop 4) whole ∙ frame-behind kind body rest;
      size = ap length whole ∙ omega (arith, length-append (frame kind body) rest, length-append (be4 (length body + 1)) (kind ∷ body), length-be4 (length body + 1));
    }

number4-front : (head rest : List ℕ) → length head ≡ 4 → number4 (head ++ rest) 0 ≡ number4 head 0
unfolding number4
number4-front [] rest size = absurd (omega arith)
number4-front (a ∷ []) rest size = absurd (omega arith)
number4-front (a ∷ b ∷ []) rest size = absurd (omega arith)
number4-front (a ∷ b ∷ c ∷ []) rest size = absurd (omega arith)
number4-front (a ∷ b ∷ c ∷ d ∷ more) rest size = refl

split_first : (content : List ℕ) → 0 < length content → content ≡ get_or content 0 0 ∷ drop 1 content
split_first [] some = absurd (omega arith)
split_first (k ∷ body) some = refl

-- what is said of a frame's kind and body, where they were split off
pub split_off : (P : ℕ → List ℕ → Type 0) (content held front back : List ℕ) → held ≡ content → front ≡ take 1 held → back ≡ drop 1 held → P (get_or front 0 0) back → P (get_or content 0 0) (drop 1 content)
split_off P content held front back same first rest holds =
    let kind : get_or front 0 0 ≡ get_or content 0 0 =
    ap (λ (l : List ℕ). get_or l 0 0) first ∙ get_or-take 1 held 0 0 (omega arith) ∙ ap (λ (l : List ℕ). get_or l 0 0) same in
    let body : back ≡ drop 1 content = rest ∙ ap (drop 1) same in
    subst (λ (k : ℕ). P k (drop 1 content)) kind (subst (P (get_or front 0 0)) body holds)

-- ---- what is found, where the bytes are told

module _ (stage : Stage) (events : ℕ) where
  -- no piece begins the bytes, of which there are some
  abbrev pub NoneBegins : List ℕ → Type 0
  NoneBegins bytes = ((piece : Piece) (text rest : List ℕ) → Spells stage events piece text → bytes ≡ text ++ rest → ⊥) × (0 < length bytes)

  none_known : (before after : Option (List ℕ)) (front : List ℕ) → Consumes before after front → ((z : List ℕ) → NoneBegins (front ++ z)) → NoPiece stage events before × HasBytes before
  none_known None after front h f = (tt, tt)
  none_known (Some x) None front h f = absurd h
  none_known (Some x) (Some z) front h f = subst NoneBegins (sym h) (f z)

  none_end : (before after : Option (List ℕ)) (front : List ℕ) → Consumes before after front → IsAtEnd after → NoneBegins front → NoPiece stage events before × HasBytes before
  none_end None after front h end f = (tt, tt)
  none_end (Some x) None front h end f = absurd h
  none_end (Some x) (Some z) front h end f =
      subst NoneBegins (sym (h ∙ ap (λ (l : List ℕ). front ++ l) end ∙ append-nil front)) f

  pub head_cut_short : (before after : Option (List ℕ)) (head : List ℕ) → Consumes before after head → IsAtEnd after → 0 < length head → length head < 4 → NoPiece stage events before × HasBytes before
  head_cut_short before after head h end some short =
      none_end before after head h end (λ piece text rest spells e. let size = (begins head spells.kind spells.body text rest spells.size spells.text_is e).size in omega arith, some)

  pub wrong_number : (before after : Option (List ℕ)) (head : List ℕ) → Consumes before after head → length head ≡ 4 → (number4 head 0 ≡ 0) ⊎ (2097152 < number4 head 0) → NoPiece stage events before × HasBytes before
  wrong_number before after head h size wrong =
      none_known before after head h (λ z. (
        λ piece text rest spells e.
            let number = sym (number4-front head z size) ∙ (begins (head ++ z) spells.kind spells.body text rest spells.size spells.text_is e).number in
            let small = spells.size in
            omega arith,
        omega (arith, length-append head z),
      ))

  pub body_cut_short : (before mid after : Option (List ℕ)) (head content : List ℕ) → Consumes before mid head → length head ≡ 4 → Consumes mid after content → IsAtEnd after → length content < number4 head 0
      → NoPiece stage events before × HasBytes before
  body_cut_short before mid after head content h size more end short =
      none_end before after (head ++ content) (Consumes-trans before mid after head content h more) end (
        λ piece text rest spells e.
            let b = begins (head ++ content) spells.kind spells.body text rest spells.size spells.text_is e in
            let number = sym (number4-front head content size) ∙ b.number in
            let whole = b.size in
            omega (arith, length-append head content),
        omega (arith, length-append head content),
      )

  pub not_a_piece : (before mid after : Option (List ℕ)) (head content : List ℕ) → Consumes before mid head → length head ≡ 4 → Consumes mid after content → length content ≡ number4 head 0 → 0 < length content
      → IsNone (Means stage events (get_or content 0 0) (drop 1 content)) → NoPiece stage events before × HasBytes before
  not_a_piece before mid after head content h size more whole some none =
      none_known before after (head ++ content) (Consumes-trans before mid after head content h more)
      (λ z. (
        λ piece text rest spells e.
            let again = append_assoc head content z in
            let b = begins ((head ++ content) ++ z) spells.kind spells.body text rest spells.size spells.text_is e in
            let number = sym (number4-front head (content ++ z) size) ∙ ap (λ (l : List ℕ). number4 l 0) (sym again) ∙ b.number in
            let behind : content ++ z ≡ (spells.kind ∷ spells.body) ++ rest = sym (drop_at head (content ++ z) 4 size) ∙ ap (drop 4) (sym again) ∙ b.behind in
            let long : length (spells.kind ∷ spells.body) ≡ length content = omega arith in
            let same : content ≡ spells.kind ∷ spells.body =
            sym (take_at content z (length content) refl) ∙ ap (take (length content)) behind ∙ take_at (spells.kind ∷ spells.body) rest (length content) long in
            none piece (subst (λ (l : List ℕ). Means stage events (get_or l 0 0) (drop 1 l) piece) (sym same) spells.means),
        omega (arith, length-append (head ++ content) z, length-append head content),
      ))

  pub is_a_piece : (before mid after : Option (List ℕ)) (head content : List ℕ) (piece : Piece) (n : ℕ) → Consumes before mid head → length head ≡ 4 → Consumes mid after content → n ≡ number4 head 0 → length content ≡ n
      → 0 < length content → n ≤ 2097152 → IsBytes head → Means stage events (get_or content 0 0) (drop 1 content) piece → FrameRead stage events before after piece (n + 4)
  is_a_piece before mid after head content piece n h size more n_is whole some small heads means =
      let split = split_first content some in
      let kind = get_or content 0 0 in
      let body = drop 1 content in
      let size_split : length content ≡ length body + 1 = ap length split ∙ omega arith in
      let number : number4 head 0 ≡ length body + 1 = sym n_is ∙ sym whole ∙ size_split in
      let front : head ≡ be4 (length body + 1) =
      sym (be4-number4 head 0 heads (omega arith) ∙ take_all 4 head (omega arith)) ∙ ap be4 number in
      let spelled : head ++ content ≡ frame kind body = ap (λ (l : List ℕ). l ++ content) front ∙ ap (λ (l : List ℕ). be4 (length body + 1) ++ l) split in
      let spells : Spells stage events piece (head ++ content) = record { kind = kind; body = body; means = means; size = omega (arith, whole, size_split, small); text_is = spelled } in
      record {
        text = head ++ content;
        spells = spells;
        consumed = Consumes-trans before mid after head content h more;
        size_is = omega (arith, length-append head content, size, whole);
      }
