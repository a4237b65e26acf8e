-- A list cut in two at a place, as a reader moves over its bytes.
use Rattle.std.proofs.Common.{◌≡◌, ℕ, ◌+◌, ◌-◌, ◌≤◌, List, [], ◌++◌, length, take, drop, Option, None, Some, sym, ap, ◌∙◌, append_assoc, arith}
use Rattle.std.proofs.Math.Seq.{take-add}
use Rattle.std.specs.Io.KnownBytes.{Consumes, prepend_known}
use Rattle.std.proofs.lemmas.List.{take-append-drop, drop-drop, take_at, drop_all, drop-take, take-take, take_rest, length-take-le, length-drop}

-- n elements from a place, and those after them
pub drop-split : (bytes : List ℕ) (at n : ℕ) → drop at bytes ≡ take n (drop at bytes) ++ drop (at + n) bytes
drop-split bytes at n = sym (take-append-drop n (drop at bytes)) ∙ ap (λ (l : List ℕ). take n (drop at bytes) ++ l) (drop-drop n at bytes)

-- Nothing is left exactly at the end.
pub at_end : (bytes : List ℕ) (at : ℕ) → drop at bytes ≡ [] → length bytes ≤ at
at_end bytes at e = let l : length (drop at bytes) ≡ 0 = ap length e in omega (arith, l, length-drop at bytes)

-- What was copied from a place stands at the front of the buffer.
pub read_splits : (bytes copied rest : List ℕ) (at n : ℕ) → at + n ≤ length bytes → copied ≡ take (at + n - at) (drop at bytes)
    → drop at bytes ≡ take n (copied ++ rest) ++ drop (at + n) bytes
read_splits bytes copied rest at n within e =
    let count : at + n - at ≡ n = omega arith in
    let copied_n : copied ≡ take n (drop at bytes) = e ∙ ap (λ (k : ℕ). take k (drop at bytes)) count in
    let size : length copied ≡ n = ap length copied_n ∙ length-take-le n (drop at bytes) (omega (arith, length-drop at bytes)) in
    drop-split bytes at n ∙ ap (λ (l : List ℕ). l ++ drop (at + n) bytes) (sym copied_n ∙ sym (take_at copied rest n size))

-- What is moved from a buffer to the end of other bytes leaves the two together as they were.
pub give_moves : (buffer bytes : List ℕ) (at n filled : ℕ) → at + n ≤ filled → filled ≤ length buffer
    → (bytes ++ take (at + n - at) (drop at buffer)) ++ drop (at + n) (take filled buffer) ≡ bytes ++ drop at (take filled buffer)
give_moves buffer bytes at n filled within fits =
    let count : at + n - at ≡ n = omega arith in
    let whole : at + (filled - at) ≡ filled = omega arith in
    let window : drop at (take filled buffer) ≡ take (filled - at) (drop at buffer) =
    ap (λ (k : ℕ). drop at (take k buffer)) (sym whole) ∙ drop-take at (filled - at) buffer in
    let front : take n (drop at buffer) ≡ take n (drop at (take filled buffer)) =
    sym (take-take n (filled - at) (drop at buffer) (omega arith)) ∙ ap (take n) (sym window) in
    ap (λ (k : ℕ). (bytes ++ take k (drop at buffer)) ++ drop (at + n) (take filled buffer)) count
    ∙ append_assoc bytes (take n (drop at buffer)) (drop (at + n) (take filled buffer))
    ∙ ap (λ (l : List ℕ). bytes ++ (l ++ drop (at + n) (take filled buffer))) front
    ∙ ap (λ (l : List ℕ). bytes ++ l) (sym (drop-split (take filled buffer) at n))

-- The buffer's bytes from a place to where it is filled are none exactly where the place is its end.
pub used_up : (buffer : List ℕ) (at filled : ℕ) → at ≤ filled → filled ≤ length buffer → drop at (take filled buffer) ≡ [] → at ≡ filled
used_up buffer at filled within fits e =
    let end = at_end (take filled buffer) at e in
    omega (arith, end, length-take-le filled buffer fits)

pub is_used_up : (buffer : List ℕ) (at filled : ℕ) → filled ≤ length buffer → at ≡ filled → drop at (take filled buffer) ≡ []
is_used_up buffer at filled fits e = drop_all at (take filled buffer) (omega (arith, length-take-le filled buffer fits))

-- What is sent next follows what was sent.
pub sends_on : (bytes : List ℕ) (sent n : ℕ) → sent ≤ length bytes
    → take sent bytes ++ take n (take (length bytes - sent) (drop sent bytes)) ≡ take (sent + n) bytes
sends_on bytes sent n within =
    ap (λ (l : List ℕ). take sent bytes ++ take n l) (take_rest bytes sent) ∙ sym (take-add sent n bytes)

-- Bytes that move from the front of the pending ones to the end of those given are consumed.
pub moves_on : (before left : Option (List ℕ)) (pending rest given more : List ℕ) → more ++ rest ≡ given ++ pending
    → Consumes before (prepend_known pending left) given → Consumes before (prepend_known rest left) more
moves_on None left pending rest given more e h = tt
moves_on (Some x) None pending rest given more e h = absurd h
moves_on (Some x) (Some y) pending rest given more e h =
    h ∙ sym (append_assoc given pending y) ∙ ap (λ (l : List ℕ). l ++ y) (sym e) ∙ append_assoc more rest y
