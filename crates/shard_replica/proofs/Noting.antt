-- What an index finds after one more pair or number is noted.
use Rattle.std.proofs.Common.{◌≡◌, ℕ, Bool, cond, ◌==◌, List, Option, Some, sym, ap, ◌∙◌, ⊎_elim}
use Rattle.std.specs.Prelude.{Result, Ok, Err, OnOk}
use Rattle.std.specs.Map.{lookup}
use Rattle.std.specs.Option.{option_map}
use Rattle.std.proofs.lemmas.Bool.{cond-true, cond-false, cases_Bool, eqb-true}
use Rattle.log_base.specs.declared.numbers.Client.{Client}
use Rattle.log_base.specs.declared.numbers.Number.{Number}
use Rattle.log_model.specs.Pairs.{greater}
use Rattle.shard_replica.specs.declared.pairs.Pair.{Pair}
use Rattle.shard_replica.specs.Index.{is_key, is_client, to_ℕ}

-- What holds where a result is `Ok` holds of one that is.
pub on_ok : {T E : Type 0} (result : Result T E) (P : Type 0) (value : T) → result ≡ Ok value → OnOk result P → P
on_ok (Ok other) P value is holds = holds
on_ok (Err error) P value is holds = absurd (cc)

-- the pair of these numbers
abbrev pub pair_of : ℕ → ℕ → Pair
pair_of client number = record { client = record { 0 = client }; number = record { 0 = number } }

-- whether two pairs are one
abbrev pub same_pair : Pair → Pair → Bool
same_pair one other = is_key one.client.0 one.number.0 other

-- Each pair is found where it was, but for the one that is noted.
abbrev pub Notes : List (Pair × ℕ) → List (Pair × ℕ) → Pair → ℕ → Type 0
Notes old new pair offset = (other : Pair) → lookup (same_pair other) new ≡ cond (same_pair pair other) (Some offset) (lookup (same_pair other) old)

-- Each client's number is what it was, but for that of the client that is noted.
abbrev pub NotesNumber : List (Client × Number) → List (Client × Number) → ℕ → Number → Type 0
NotesNumber old new client number =
    (other : Client) → lookup (is_client other.0) new ≡ cond (client == other.0) (Some number) (lookup (is_client other.0) old)

-- the number of a client, in entries
abbrev pub found : List (Client × Number) → ℕ → Option ℕ
found lasts client = option_map to_ℕ (lookup (is_client client) lasts)

-- Where the greater number is noted, the greatest number is found.
pub last-noted : (old new : List (Client × Number)) (client number : ℕ) (greatest : Number) → NotesNumber old new client greatest
    → greatest.0 ≡ greater number (found old client)
    → (c : ℕ) → found new c ≡ cond {A = Option ℕ} (client == c) (Some (greater number (found old c))) (found old c)
last-noted old new client number greatest notes is c =
    ap (option_map to_ℕ) (notes (record { 0 = c })) ∙
    ⊎_elim
    (λ own.
    let same : client ≡ c = eqb-true client c own in
    ap (option_map to_ℕ) (cond-true (client == c) (Some greatest) (lookup (is_client c) old) own)
    ∙ ap (λ (n : ℕ). Some n) (is ∙ ap (λ (k : ℕ). greater number (found old k)) same)
    ∙ sym (cond-true {A = Option ℕ} (client == c) (Some (greater number (found old c))) (found old c) own))
    (λ other.
    ap (option_map to_ℕ) (cond-false (client == c) (Some greatest) (lookup (is_client c) old) other)
    ∙ sym (cond-false {A = Option ℕ} (client == c) (Some (greater number (found old c))) (found old c) other))
    (cases_Bool (client == c))
