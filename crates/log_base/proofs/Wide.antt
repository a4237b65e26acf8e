-- Numbers and their bytes: what was written is read again, and what is read was written so.
use Rattle.std.proofs.Common.{◌≡◌, ℕ, zero, suc, ◌+◌, ◌*◌, ◌/◌, ◌%◌, ◌^◌, ◌<◌, ◌≤◌, List, [], ◌∷◌, ◌++◌, length, take, drop, refl, sym, ap, ◌∙◌, arith}
use Rattle.std.proofs.Math.Nat.{div-one, mul-add-div_right, mul-add-mod_self_right, mod-eq_of_lt, one-le-pow, pow-succ', mul_assoc}
use Rattle.std.proofs.lemmas.Nat.{div-mul-add}
use Rattle.std.proofs.lemmas.List.{drop_at, length-drop}
use Rattle.std.specs.Int.{byte_at, bytes_high_first}
use Rattle.byteorder.specs.Endian.{big_from}
use Rattle.byteorder.specs.Numbers.{big_from-cons, big_from-lt, big_number-reads_back}
use Rattle.log_base.specs.Wide.{IsBytes, be2, be4, be8, number2, number4, number8}

-- a byte of a number, by its place
byte_at-pow : (k x : ℕ) → byte_at k x ≡ x / 256 ^ k % 256
byte_at-pow zero x = ap (λ (y : ℕ). y % 256) (sym (div-one x))
byte_at-pow (suc k) x = refl

-- what stands above the lowest bytes does not change them
bytes_high_first-add : (n k r : ℕ) → bytes_high_first n (k * 256 ^ n + r) ≡ bytes_high_first n r
bytes_high_first-add zero k r = refl
bytes_high_first-add (suc n) k r =
    let above : k * 256 ^ suc n + r ≡ (k * 256) * 256 ^ n + r = ap (λ (y : ℕ). y + r) (ap (λ (y : ℕ). k * y) (pow-succ' 256 n) ∙ sym (mul_assoc k 256 (256 ^ n))) in
    let some : zero < 256 ^ n = omega (arith, one-le-pow n 256 (omega arith)) in
    let top : ((k * 256) * 256 ^ n + r) / 256 ^ n % 256 ≡ r / 256 ^ n % 256 =
    ap (λ (y : ℕ). y % 256) (mul-add-div_right some (k * 256) r) ∙ mul-add-mod_self_right k 256 (r / 256 ^ n) in
    ap (bytes_high_first (suc n)) above
    ∙ ap (λ (b : ℕ). b ∷ bytes_high_first n ((k * 256) * 256 ^ n + r)) (byte_at-pow n _ ∙ top ∙ sym (byte_at-pow n r))
    ∙ ap (λ (l : List ℕ). byte_at n r ∷ l) (bytes_high_first-add n (k * 256) r)

-- the bytes behind the first are bytes
pub IsBytes-tail : (b : ℕ) (bs : List ℕ) → IsBytes (b ∷ bs) → IsBytes bs
IsBytes-tail b bs h i = h (suc i)

-- the bytes of the number that bytes stand for are these bytes
bytes_of_number : (n : ℕ) (xs : List ℕ) → IsBytes xs → n ≤ length xs → bytes_high_first n (big_from 0 n xs) ≡ take n xs
bytes_of_number zero xs bytes long = refl
bytes_of_number (suc n) [] bytes long = absurd (omega arith)
bytes_of_number (suc n) (b ∷ bs) bytes long =
    let rest = big_from-cons 0 n b bs in
    let small : big_from 0 n bs < 256 ^ n = big_from-lt 0 n bs (IsBytes-tail b bs bytes) in
    let byte : b < 256 = bytes 0 in
    let value : big_from 0 (suc n) (b ∷ bs) ≡ b * 256 ^ n + big_from 0 n bs = ap (λ (r : ℕ). b * 256 ^ n + r) rest in
    ap (bytes_high_first (suc n)) value
    ∙ ap (λ (x : ℕ). x ∷ bytes_high_first n (b * 256 ^ n + big_from 0 n bs)) (byte_at-pow n _ ∙ ap (λ (y : ℕ). y % 256) (div-mul-add b (256 ^ n) (big_from 0 n bs) small) ∙ mod-eq_of_lt byte)
    ∙ ap (λ (l : List ℕ). b ∷ l) (bytes_high_first-add n b (big_from 0 n bs) ∙ bytes_of_number n bs (IsBytes-tail b bs bytes) (omega arith))

-- a number from a place is the number at the front of what stands from there
big_from-drop : (at n : ℕ) (xs : List ℕ) → big_from at n xs ≡ big_from 0 n (drop at xs)
big_from-drop zero n xs = refl
big_from-drop (suc at) n [] = past (suc at) 0 n
  where
    past : (i j m : ℕ) → big_from i m [] ≡ big_from j m []
    past i j zero = refl
    past i j (suc m) = ap (λ (r : ℕ). 0 * 256 ^ m + r) (past (suc i) (suc j) m)
big_from-drop (suc at) n (x ∷ xs) = big_from-cons at n x xs ∙ big_from-drop at n xs

-- what stands behind a front is read from its end on
number_behind : (n x at : ℕ) (front rest : List ℕ) → length front ≡ at → x < 256 ^ n
    → big_from at n (front ++ (bytes_high_first n x ++ rest)) ≡ x
number_behind n x at front rest size fits =
    big_from-drop at n (front ++ (bytes_high_first n x ++ rest))
    ∙ ap (big_from 0 n) (drop_at front (bytes_high_first n x ++ rest) at size)
    ∙ big_number-reads_back n x rest fits

pub IsBytes-drop : (at : ℕ) (xs : List ℕ) → IsBytes xs → IsBytes (drop at xs)
IsBytes-drop zero xs bytes = bytes
IsBytes-drop (suc at) [] bytes = bytes
IsBytes-drop (suc at) (x ∷ xs) bytes = IsBytes-drop at xs (IsBytes-tail x xs bytes)

-- what is read from a place stands there, written so
written_at : (n : ℕ) (bytes : List ℕ) (at : ℕ) → IsBytes bytes → at + n ≤ length bytes → bytes_high_first n (big_from at n bytes) ≡ take n (drop at bytes)
written_at n bytes at h long =
    ap (bytes_high_first n) (big_from-drop at n bytes)
    ∙ bytes_of_number n (drop at bytes) (IsBytes-drop at bytes h) (omega (arith, length-drop at bytes))

-- ---- two, four and eight bytes

pub length-be2 : (x : ℕ) → length (be2 x) ≡ 2
unfolding be2
length-be2 x = refl

pub length-be4 : (x : ℕ) → length (be4 x) ≡ 4
unfolding be4
length-be4 x = refl

pub length-be8 : (x : ℕ) → length (be8 x) ≡ 8
unfolding be8
length-be8 x = refl

-- what was written behind a front is read again
pub number2-be2 : (x at : ℕ) (front rest : List ℕ) → length front ≡ at → x < 2 ^ 16 → number2 (front ++ (be2 x ++ rest)) at ≡ x
unfolding be2 number2
number2-be2 x at front rest size fits = number_behind 2 x at front rest size fits

pub number4-be4 : (x at : ℕ) (front rest : List ℕ) → length front ≡ at → x < 2 ^ 32 → number4 (front ++ (be4 x ++ rest)) at ≡ x
unfolding be4 number4
number4-be4 x at front rest size fits = number_behind 4 x at front rest size fits

pub number8-be8 : (x at : ℕ) (front rest : List ℕ) → length front ≡ at → x < 2 ^ 64 → number8 (front ++ (be8 x ++ rest)) at ≡ x
unfolding be8 number8
number8-be8 x at front rest size fits = number_behind 8 x at front rest size fits

-- what is read from a place stands there, written so
pub be2-number2 : (bytes : List ℕ) (at : ℕ) → IsBytes bytes → at + 2 ≤ length bytes → be2 (number2 bytes at) ≡ take 2 (drop at bytes)
unfolding be2 number2
be2-number2 bytes at h long = written_at 2 bytes at h long

pub be4-number4 : (bytes : List ℕ) (at : ℕ) → IsBytes bytes → at + 4 ≤ length bytes → be4 (number4 bytes at) ≡ take 4 (drop at bytes)
unfolding be4 number4
be4-number4 bytes at h long = written_at 4 bytes at h long

pub be8-number8 : (bytes : List ℕ) (at : ℕ) → IsBytes bytes → at + 8 ≤ length bytes → be8 (number8 bytes at) ≡ take 8 (drop at bytes)
unfolding be8 number8
be8-number8 bytes at h long = written_at 8 bytes at h long

-- a number that is read has the width of its bytes
pub number2-lt : (bytes : List ℕ) (at : ℕ) → IsBytes bytes → number2 bytes at < 2 ^ 16
unfolding number2
number2-lt bytes at h = big_from-lt at 2 bytes h

pub number4-lt : (bytes : List ℕ) (at : ℕ) → IsBytes bytes → number4 bytes at < 2 ^ 32
unfolding number4
number4-lt bytes at h = big_from-lt at 4 bytes h

pub number8-lt : (bytes : List ℕ) (at : ℕ) → IsBytes bytes → number8 bytes at < 2 ^ 64
unfolding number8
number8-lt bytes at h = big_from-lt at 8 bytes h
