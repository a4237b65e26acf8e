use Rattle.std.proofs.Common.{ℕ, List, [], ◌∷◌, ◌++◌, ap, ◌∙◌}
use Rattle.log_base.specs.Wide.{be4}
use Rattle.log_base.specs.Shape.{shape}
use Rattle.reply_frame.proofs.Puts.{four_puts}
use Rattle.history_frame.proofs.Puts.{head_whole}
use Rattle.history_frame.proofs.writing.write_head.Goals as goal

pub returns-clause-ok : goal.returns-clause-ok
returns-clause-ok c =
    let old = c.args.out.now.items in
    let config = shape c.args.config.now in
    let run = be4 c.args.run in
    let last = four_puts c.put_u8-2.new.out.items (c.shards.result ∷ []) (c.orderers.result ∷ []) (c.gatherers.result ∷ []) run _ _ _ _
    c.put_u8-3.ensures.items c.put_u8-4.ensures.items c.put_u8-5.ensures.items c.put_u32-2.ensures.items in
    let all = four_puts old (be4 9) (96 ∷ []) (c.replicas.result ∷ []) (c.shards.result ∷ (c.orderers.result ∷ (c.gatherers.result ∷ run))) _ _ _ _
    (c.put_u32.ensures.items ∙ ap (λ l. l ++ be4 9) c.reserve.ensures.items) c.put_u8.ensures.items c.put_u8-2.ensures.items last in
    all
    ∙ ap (λ (n : ℕ). old ++ (be4 9 ++ (96 ∷ (n ∷ (c.shards.result ∷ (c.orderers.result ∷ (c.gatherers.result ∷ run))))))) c.replicas.ensures
    ∙ ap (λ (n : ℕ). old ++ (be4 9 ++ (96 ∷ (config.replicas ∷ (n ∷ (c.orderers.result ∷ (c.gatherers.result ∷ run))))))) c.shards.ensures
    ∙ ap (λ (n : ℕ). old ++ (be4 9 ++ (96 ∷ (config.replicas ∷ (config.shards ∷ (n ∷ (c.gatherers.result ∷ run))))))) c.orderers.ensures
    ∙ ap (λ (n : ℕ). old ++ (be4 9 ++ (96 ∷ (config.replicas ∷ (config.shards ∷ (config.orderers ∷ (n ∷ run))))))) c.gatherers.ensures
    ∙ ap (λ (l : List ℕ). old ++ l) (head_whole config c.args.run)
