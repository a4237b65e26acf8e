-- No item's frame begins another, and what a frame's reading finds.
use Rattle.std.proofs.Common.{◌≡◌, ℕ, ◌+◌, ◌<◌, ◌≤◌, ◌⊎◌, List, [], ◌∷◌, ◌++◌, length, take, drop, get_or, Option, Some, None, refl, sym, ap, ◌∙◌, subst, append_assoc, append-nil, length-append, arith}
use Rattle.std.proofs.lemmas.List.{take_at, drop_at, take_all}
use Rattle.std.proofs.KnownBytes.{Consumes-trans}
use Rattle.std.specs.Io.KnownBytes.{Consumes, IsAtEnd}
use Rattle.log_base.specs.ClusterShape.{Shape, InRange}
use Rattle.log_base.specs.Wide.{IsBytes, be2, be4, be8, number4}
use Rattle.log_base.proofs.Wide.{length-be4, length-be8, be4-number4}
use Rattle.command_frame.specs.declared.items.Item.{Item}
use Rattle.command_frame.specs.declared.items.Item.TheVariants.{Append, Read, Subscribe, Trim, Add, Finalise, Ask, Fault}
use Rattle.command_frame.specs.Items.{item_kind, item_body, item_spelling, IsItem, IsReading}
use Rattle.reply_frame.proofs.FrameLaws.{frame-behind, frame-number, one_frame}
use Rattle.command_frame.specs.Reader.{NoItem}
use Rattle.command_frame.proofs.LineLengths.{length-fault_line}
use Rattle.command_frame.proofs.ReadingLaws.{one_spelled}

-- ---- the parts of bytes that begin with an item's spelling

pub length-item_body : (c : Shape) (item : Item) → InRange c → IsItem c item → length (item_body item) ≤ 65539
unfolding be2
length-item_body c (Append lane shard replica bytes) range is = let size = is.3 in omega arith
length-item_body c (Read lane shard replica position) range is = omega (arith, length-be8 position.0)
length-item_body c (Subscribe lane shard replica from count) range is =
    omega (arith, length-append (be8 from.0) (be2 count), length-be8 from.0)
length-item_body c (Trim lane position) range is = omega (arith, length-be8 position.0)
length-item_body c (Add lane shard) range is = omega arith
length-item_body c (Finalise lane shard) range is = omega arith
length-item_body c (Ask lane) range is = omega arith
length-item_body c (Fault lane fault) range is = omega (arith, length-fault_line c fault range is.1)

record Begins (bytes : List ℕ) (item : Item) (rest : List ℕ) : Type 0 where
  number : number4 bytes 0 ≡ length (item_body item) + 1
  behind : drop 4 bytes ≡ item_kind item ∷ item_body item ++ rest
  short : length (item_body item) ≤ 65539
  size : length bytes ≡ length (item_body item) + 5 + length rest

begins : (c : Shape) (bytes : List ℕ) (item : Item) (rest : List ℕ) → InRange c → IsItem c item → bytes ≡ item_spelling item ++ rest → Begins bytes item rest
begins c bytes item rest range is e =
    let short = length-item_body c item range is in
    record {
      number = ap (λ (l : List ℕ). number4 l 0) e ∙ frame-number (item_kind item) (item_body item) rest (omega arith);
      behind = ap (drop 4) e ∙ frame-behind (item_kind item) (item_body item) rest;
      short = short;
      size = ap length e ∙ omega (arith, length-append (item_spelling item) rest, length-append (be4 (length (item_body item) + 1)) (item_kind item ∷ item_body item), length-be4 (length (item_body item) + 1));
    }

pub one_item : (c : Shape) (i j : Item) (x y : List ℕ) → InRange c → IsItem c i → IsItem c j → item_spelling i ++ x ≡ item_spelling j ++ y → (i ≡ j) × (x ≡ y)
one_item c i j x y range is js e =
    let short = length-item_body c i range is in
    let also = length-item_body c j range js in
    let same = one_frame (item_kind i) (item_kind j) (item_body i) (item_body j) x y (omega arith) (omega arith) e in (
      one_spelled c (item_kind j) (item_body j) i j range (record { of_kind = sym same.kind; with_body = sym same.body; is_item = is })
          (record { of_kind = refl; with_body = refl; is_item = js }),
      same.rest,
    )

-- ---- what is found, where the bytes are told

no_item_known : (c : Shape) (before after : Option (List ℕ)) (front : List ℕ) → Consumes before after front
    → ((z : List ℕ) → NoItem c (Some (front ++ z))) → NoItem c before
no_item_known c None after front h f = tt
no_item_known c (Some x) None front h f = absurd h
no_item_known c (Some x) (Some z) front h f = subst (λ (l : List ℕ). NoItem c (Some l)) (sym h) (f z)

no_item_end : (c : Shape) (before after : Option (List ℕ)) (front : List ℕ) → Consumes before after front → IsAtEnd after
    → NoItem c (Some front) → NoItem c before
no_item_end c None after front h end f = tt
no_item_end c (Some x) None front h end f = absurd h
no_item_end c (Some x) (Some z) front h end f =
    subst (λ (l : List ℕ). NoItem c (Some l)) (sym (h ∙ ap (λ (l : List ℕ). front ++ l) end ∙ append-nil front)) f

pub head_cut_short : (c : Shape) (before after : Option (List ℕ)) (head : List ℕ) → InRange c → Consumes before after head → IsAtEnd after
    → 0 < length head → length head < 4 → NoItem c before
head_cut_short c before after head range h end some short =
    no_item_end c before after head h end (some, λ item rest is e. let b = begins c head item rest range is e in let size = b.size in omega arith)

number4-front : (head rest : List ℕ) → length head ≡ 4 → number4 (head ++ rest) 0 ≡ number4 head 0
unfolding number4
number4-front [] rest size = absurd (omega arith)
number4-front (a ∷ []) rest size = absurd (omega arith)
number4-front (a ∷ b ∷ []) rest size = absurd (omega arith)
number4-front (a ∷ b ∷ c ∷ []) rest size = absurd (omega arith)
number4-front (a ∷ b ∷ c ∷ d ∷ more) rest size = refl

pub wrong_number : (c : Shape) (before after : Option (List ℕ)) (head : List ℕ) → InRange c → Consumes before after head → length head ≡ 4
    → (number4 head 0 ≡ 0) ⊎ (65541 < number4 head 0) → NoItem c before
wrong_number c before after head range h size wrong =
    no_item_known c before after head h (λ z. (
      omega (arith, length-append head z),
      λ item rest is e.
          let b = begins c (head ++ z) item rest range is e in
          let number = sym (number4-front head z size) ∙ b.number in
          let short = b.short in
          omega arith,
    ))

pub body_cut_short : (c : Shape) (before mid after : Option (List ℕ)) (head body : List ℕ) → InRange c → Consumes before mid head → length head ≡ 4
    → Consumes mid after body → IsAtEnd after → length body < number4 head 0 → NoItem c before
body_cut_short c before mid after head body range h size more end short =
    no_item_end c before after (head ++ body) (Consumes-trans before mid after head body h more) end (
      omega (arith, length-append head body),
      λ item rest is e.
          let b = begins c (head ++ body) item rest range is e in
          let number = sym (number4-front head body size) ∙ b.number in
          let whole = b.size in
          omega (arith, length-append head body),
    )

pub not_an_item : (c : Shape) (before mid after : Option (List ℕ)) (head content : List ℕ) → InRange c → Consumes before mid head → length head ≡ 4
    → Consumes mid after content → length content ≡ number4 head 0 → 0 < length content
    → IsReading c (get_or content 0 0) (drop 1 content) None → NoItem c before
not_an_item c before mid after head content range h size more whole some none =
    no_item_known c before after (head ++ content) (Consumes-trans before mid after head content h more)
    (λ z. (
      omega (arith, length-append (head ++ content) z, length-append head content),
      λ item rest is e.
          let again = append_assoc head content z in
          let b = begins c ((head ++ content) ++ z) item rest range is e in
          let number = sym (number4-front head (content ++ z) size) ∙ ap (λ (l : List ℕ). number4 l 0) (sym again) ∙ b.number in
          let behind : content ++ z ≡ (item_kind item ∷ item_body item) ++ rest = sym (drop_at head (content ++ z) 4 size) ∙ ap (drop 4) (sym again) ∙ b.behind in
          let long : length (item_kind item ∷ item_body item) ≡ length content = omega arith in
          let same : content ≡ item_kind item ∷ item_body item =
          sym (take_at content z (length content) refl) ∙ ap (take (length content)) behind ∙ take_at (item_kind item ∷ item_body item) rest (length content) long in
          none item (record { of_kind = ap (λ (l : List ℕ). get_or l 0 0) same; with_body = ap (drop 1) same; is_item = is }),
    ))

split_first : (content : List ℕ) → 0 < length content → content ≡ get_or content 0 0 ∷ drop 1 content
split_first [] some = absurd (omega arith)
split_first (k ∷ body) some = refl

pub is_an_item : (c : Shape) (before mid after : Option (List ℕ)) (head content : List ℕ) (item : Item) (size : ℕ) → InRange c → Consumes before mid head
    → length head ≡ 4 → Consumes mid after content → length content ≡ number4 head 0 → 0 < length content → IsBytes head
    → IsReading c (get_or content 0 0) (drop 1 content) (Some item) → size ≡ number4 head 0 + 4
    → IsItem c item × Consumes before after (item_spelling item) × (size ≡ length (item_spelling item))
is_an_item c before mid after head content item size range h four more whole some heads t sized =
    let split = split_first content some in
    let size_split = ap length split in
    let size_body = ap length t.with_body in
    let number : number4 head 0 ≡ length (item_body item) + 1 = omega arith in
    let front : head ≡ be4 (length (item_body item) + 1) =
    sym (be4-number4 head 0 heads (omega arith) ∙ take_all 4 head (omega arith)) ∙ ap be4 number in
    let rest : content ≡ item_kind item ∷ item_body item =
    split ∙ ap (λ (k : ℕ). k ∷ drop 1 content) t.of_kind ∙ ap (λ (l : List ℕ). item_kind item ∷ l) t.with_body in
    let spelled : head ++ content ≡ item_spelling item =
    ap (λ (l : List ℕ). l ++ content) front ∙ ap (λ (l : List ℕ). be4 (length (item_body item) + 1) ++ l) rest in (
      t.is_item,
      subst (Consumes before after) spelled (Consumes-trans before mid after head content h more),
      omega (arith, ap length spelled, length-append head content),
    )
