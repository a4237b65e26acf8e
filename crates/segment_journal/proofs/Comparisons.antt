-- Where two lists of payloads first differ.
use Rattle.std.proofs.Common.{◌≡◌, ◌≢◌, ℕ, ◌+◌, ◌<◌, ◌≤◌, List, [], ◌∷◌, ◌++◌, length, take, get_or, slice_get, Option, None, Some, option_to_list, refl, sym, ap, ◌∙◌, arith}
use Rattle.std.proofs.lemmas.List.{length-append, append-nil, take_all, take_at, take-append-le, take_more, take_more_same, get_or_append_left, get_or_push, length_push}
use Rattle.std.proofs.lemmas.Option.{slice_get-get_or, slice_get_past, slice_get_within, get_or_from_slice_get, none-some, same_Some}
use Rattle.segment_journal.specs.File.{place_of}
use Rattle.segment_journal.specs.Comparing.{IsFirstDifference, IsDifferent}

abbrev Payload : Type 0
Payload = List ℕ

pub agree-more : (read kept : List Payload) (k : ℕ) (payload other : Payload) → slice_get read k ≡ Some payload → slice_get kept k ≡ Some other → payload ≡ other → take k read ≡ take k kept → take (k + 1) read ≡ take (k + 1) kept
agree-more read kept k payload other here there same so_far =
    take_more_same read kept k [] (slice_get_within read k payload here) (slice_get_within kept k other there) so_far
    (get_or_from_slice_get read k payload [] here ∙ same ∙ sym (get_or_from_slice_get kept k other [] there))

slice_get-append : (some more : List Payload) (k : ℕ) → k < length some → slice_get (some ++ more) k ≡ slice_get some k
slice_get-append some more k within =
    slice_get-get_or (some ++ more) k [] (omega (arith, length-append some more)) ∙ ap (λ (p : Payload). Some p) (get_or_append_left some more [] k within) ∙ sym (slice_get-get_or some k [] within)

-- they differ within the list that stood before
module _ (read kept : List Payload) (k : ℕ) (here : k ≤ length read) (inside : k < length kept) (same : take k read ≡ take k kept) (differs : k < length read → k < length kept → slice_get read k ≢ slice_get kept k) where
  first-inside : (more : List Payload) → IsFirstDifference read (kept ++ more) k
  first-inside more = record {
    within = here;
    same = same ∙ sym (take-append-le k kept more (omega (arith, inside)));
    differs = λ below is. differs below inside (is ∙ slice_get-append kept more k inside);
  }

  never-inside : (more : List Payload) → read ≢ kept ++ more
  never-inside more is =
      differs (omega (arith, ap length is, length-append kept more, inside)) inside (ap (λ (l : List Payload). slice_get l k) is ∙ slice_get-append kept more k inside)

  pub different-inside : (flight : Option Payload) → IsDifferent read kept flight (place_of read k)
  different-inside flight = record {
    not_same = λ is. never-inside [] (is ∙ sym (append-nil kept));
    not_more = never-inside (option_to_list flight);
    index = k;
    first = first-inside (option_to_list flight);
    place = refl;
  }

-- a longer list differs behind the other
pub first-behind : (read expected : List Payload) (k : ℕ) → k ≡ length expected → take k read ≡ expected → k < length read → IsFirstDifference read expected k
first-behind read expected k size front longer = record {
  within = omega (arith, longer);
  same = front ∙ sym (take_all k expected (omega (arith, size)));
  differs = λ below is. none-some (get_or read k []) (sym (slice_get_past expected k (omega (arith, size))) ∙ sym is ∙ slice_get-get_or read k [] longer);
}

longer-not : (read other : List Payload) → length other < length read → read ≢ other
longer-not read other longer is = absurd (omega (arith, ap length is))

-- the list that stood before is the front of what was read
pub front-is : (read kept : List Payload) (k : ℕ) → k ≡ length kept → take k read ≡ take k kept → take k read ≡ kept
front-is read kept k size same = same ∙ take_all k kept (omega (arith, size))

pub same-lists : (read kept : List Payload) (k : ℕ) → k ≡ length kept → k ≡ length read → take k read ≡ take k kept → read ≡ kept
same-lists read kept k size whole same = sym (take_all k read (omega (arith, whole))) ∙ front-is read kept k size same

pub different-behind : (read kept : List Payload) (k : ℕ) → k ≡ length kept → take k read ≡ take k kept → k < length read → IsDifferent read kept None (place_of read k)
different-behind read kept k size same longer = record {
  not_same = longer-not read kept (omega (arith, size, longer));
  not_more = longer-not read (kept ++ []) (omega (arith, size, longer, length-append kept []));
  index = k;
  first = first-behind read (kept ++ []) k (omega (arith, size, length-append kept [])) (front-is read kept k size same ∙ sym (append-nil kept)) longer;
  place = refl;
}

-- another payload stands where the one in flight would
pub different-flight : (read kept : List Payload) (k : ℕ) (payload flight : Payload) → k ≡ length kept → take k read ≡ take k kept → slice_get read k ≡ Some payload → payload ≢ flight
    → IsDifferent read kept (Some flight) (place_of read k)
different-flight read kept k payload flight size same here other =
    let longer = slice_get_within read k payload here in
    let last : slice_get (kept ++ flight ∷ []) k ≡ Some flight = slice_get-get_or (kept ++ flight ∷ []) k [] (omega (arith, size, length_push kept flight)) ∙ ap (λ (p : Payload). Some p) (get_or_push kept flight [] k (sym size)) in
    let differs : slice_get read k ≢ slice_get (kept ++ flight ∷ []) k = λ is. other (same_Some payload flight (sym here ∙ is ∙ last)) in
    record {
      not_same = longer-not read kept (omega (arith, size, longer));
      not_more = λ is. differs (ap (λ (l : List Payload). slice_get l k) is);
      index = k;
      first = record {
        within = omega (arith, longer);
        same = front-is read kept k size same ∙ sym (take_at kept (flight ∷ []) k (sym size));
        differs = λ below. differs;
      };
      place = refl;
    }

-- the payload in flight stands at the end of what was read
pub front-more : (read kept : List Payload) (k : ℕ) (payload flight : Payload) → k ≡ length kept → take k read ≡ take k kept → slice_get read k ≡ Some payload → payload ≡ flight → take (k + 1) read ≡ kept ++ flight ∷ []
front-more read kept k payload flight size same here is =
    take_more read k [] (slice_get_within read k payload here)
    ∙ ap (λ (l : List Payload). l ++ get_or read k [] ∷ []) (front-is read kept k size same)
    ∙ ap (λ (p : Payload). kept ++ p ∷ []) (get_or_from_slice_get read k payload [] here ∙ is)

pub one-more-list : (read kept : List Payload) (k : ℕ) (payload flight : Payload) → k ≡ length kept → take k read ≡ take k kept → slice_get read k ≡ Some payload → payload ≡ flight → length read ≤ k + 1 → read ≡ kept ++ flight ∷ []
one-more-list read kept k payload flight size same here is most = sym (take_all (k + 1) read most) ∙ front-more read kept k payload flight size same here is

-- and others behind it
pub different-more : (read kept : List Payload) (k : ℕ) (payload flight : Payload) → k ≡ length kept → take k read ≡ take k kept → slice_get read k ≡ Some payload → payload ≡ flight → k + 1 < length read
    → IsDifferent read kept (Some flight) (place_of read (k + 1))
different-more read kept k payload flight size same here is longer = record {
  not_same = longer-not read kept (omega (arith, size, longer));
  not_more = longer-not read (kept ++ flight ∷ []) (omega (arith, size, longer, length_push kept flight));
  index = k + 1;
  first = first-behind read (kept ++ flight ∷ []) (k + 1) (omega (arith, size, length_push kept flight)) (front-more read kept k payload flight size same here is) longer;
  place = refl;
}
