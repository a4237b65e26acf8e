-- One more value after others makes known what they all make known.
use Rattle.std.proofs.Common.{◌≡◌, ℕ, ◌+◌, List, [], ◌∷◌, ◌++◌, length, sym, ap, ◌∙◌, length-append}
use Rattle.std.proofs.lemmas.List.{append-nil}
use Rattle.log_base.specs.ClusterShape.{Shape}
use Rattle.log_base.specs.declared.numbers.Place.{Place}
use Rattle.record_frame.specs.declared.values.Value.{Value}
use Rattle.log_model.specs.Chain.{ChainState, chain_of, covered_by}
use Rattle.log_model.specs.Spelling.{spell}
use Rattle.log_model.proofs.Appending.{chain_of-append, spell-append}
use Rattle.cut_chain.specs.Known.{Known, known_of, learned}

-- what is known, from its parts
abbrev pub known : Shape → ChainState → List Place → ℕ → Known
known config chain places count = record { config = config; chain = chain; places = places; count = count }

pub same_known : (config : Shape) (chain other : ChainState) (places more : List Place) (count : ℕ) → chain ≡ other → places ≡ more
    → known config chain places count ≡ known config other more count
same_known config chain other places more count chains spelled =
    ap (λ (c : ChainState). known config c places count) chains ∙ ap (λ (ps : List Place). known config other ps count) spelled

pub known_grows : (config : Shape) (values : List Value) (value : Value) → learned (known_of config values) value ≡ known_of config (values ++ value ∷ [])
known_grows config values value =
    let chain = chain_of-append config.replicas values (value ∷ []) in
    let more = covered_by config.replicas (chain_of config.replicas values) value in
    let places = spell-append config.replicas values (value ∷ []) ∙ ap (λ (ps : List Place). spell config.replicas values ++ ps) (append-nil more) in
    same_known config _ _ _ _ (length values + 1) (sym chain) (sym places)
    ∙ ap (λ (n : ℕ). known config (chain_of config.replicas (values ++ value ∷ [])) (spell config.replicas (values ++ value ∷ [])) n)
    (sym (length-append values (value ∷ [])))
