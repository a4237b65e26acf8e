-- Values appended to others: the chain goes on from where they left it, and so does what they spell.
use Rattle.std.proofs.Common.{◌≡◌, ℕ, ◌+◌, ◌≤◌, List, [], ◌∷◌, ◌++◌, length, refl, sym, ap, ◌∙◌, append_assoc, length-append, arith}
use Rattle.std.proofs.lemmas.Bool.{cond_both}
use Rattle.record_frame.specs.declared.values.Value.{Value}
use Rattle.record_frame.specs.declared.values.Value.TheVariants.{Noop, Cut, Add, Finalise, Trim}
use Rattle.log_model.specs.Chain.{ChainState, no_values, apply, apply_all, chain_of, covered_by, is_added}
use Rattle.log_model.specs.Spelling.{spell, spell_from}

pub apply_all-append : (replicas : ℕ) (chain : ChainState) (values more : List Value)
    → apply_all replicas chain (values ++ more) ≡ apply_all replicas (apply_all replicas chain values) more
apply_all-append replicas chain [] more = refl
apply_all-append replicas chain (value ∷ values) more = apply_all-append replicas (apply replicas chain value) values more

pub spell_from-append : (replicas : ℕ) (chain : ChainState) (values more : List Value)
    → spell_from replicas chain (values ++ more) ≡ spell_from replicas chain values ++ spell_from replicas (apply_all replicas chain values) more
spell_from-append replicas chain [] more = refl
spell_from-append replicas chain (value ∷ values) more =
    let after = apply replicas chain value in
    ap (λ later. covered_by replicas chain value ++ later) (spell_from-append replicas after values more)
    ∙ sym (append_assoc (covered_by replicas chain value) (spell_from replicas after values) (spell_from replicas (apply_all replicas after values) more))

pub chain_of-append : (replicas : ℕ) (values more : List Value)
    → chain_of replicas (values ++ more) ≡ apply_all replicas (chain_of replicas values) more
chain_of-append replicas values more = apply_all-append replicas no_values values more

pub spell-append : (replicas : ℕ) (values more : List Value)
    → spell replicas (values ++ more) ≡ spell replicas values ++ spell_from replicas (chain_of replicas values) more
spell-append replicas values more = spell_from-append replicas no_values values more

-- A value moves the end by the number of places that it newly covers.
pub end-apply : (replicas : ℕ) (chain : ChainState) (value : Value)
    → (apply replicas chain value).end ≡ chain.end + length (covered_by replicas chain value)
end-apply replicas chain Noop = omega arith
end-apply replicas chain (Cut lengths) = refl
end-apply replicas chain (Add shard) =
    let same : chain.end ≡ chain.end + 0 = omega arith in
    cond_both (is_added chain shard.0) chain _ (λ (c : ChainState). c.end ≡ chain.end + 0) (λ _. same) (λ _. same)
end-apply replicas chain (Finalise shard) = omega arith
end-apply replicas chain (Trim position) = omega arith

pub end-apply_all : (replicas : ℕ) (chain : ChainState) (values : List Value)
    → (apply_all replicas chain values).end ≡ chain.end + length (spell_from replicas chain values)
end-apply_all replicas chain [] = omega arith
end-apply_all replicas chain (value ∷ values) =
    let after = apply replicas chain value in
    omega (
      arith,
      end-apply_all replicas after values,
      end-apply replicas chain value,
      length-append (covered_by replicas chain value) (spell_from replicas after values),
    )

pub end-chain_of : (replicas : ℕ) (values : List Value) → (chain_of replicas values).end ≡ length (spell replicas values)
end-chain_of replicas values = omega (arith, end-apply_all replicas no_values values)

pub end-rises : (replicas : ℕ) (chain : ChainState) (values : List Value) → chain.end ≤ (apply_all replicas chain values).end
end-rises replicas chain values = omega (arith, end-apply_all replicas chain values)
