use Rattle.std.proofs.Common.{◌++◌, ◌∷◌, [], ℕ, sym, ap, ◌∙◌, subst, arith}
use Rattle.event_letters.specs.Letters.{HasSpace, letter}
use Rattle.node_model.specs.Messages.{copy_message}
use Rattle.record_frame.specs.declared.entries.Entry.{Entry}
use Rattle.storage_node.proofs.Sizes.{copy-length, payload-length}
use Rattle.storage_node.proofs.prepared.Prepared.make_copy.Goals as goal

pub overflow_cast-payload : goal.overflow_cast-payload
overflow_cast-payload c = let size = payload-length c.args.payload.now c.requires.spelled in omega (arith, size)

pub overflow_add-payload : goal.overflow_add-payload
overflow_add-payload c = let size = payload-length c.args.payload.now c.requires.spelled in omega (arith, size)

pub returns-clause-made : goal.returns-clause-made
returns-clause-made c =
    let size = copy-length c.args.segment.0 c.args.offset c.args.payload.now c.requires.spelled in
    let small = payload-length c.args.payload.now c.requires.spelled in
    record {
      copies = c.in_ok-push.ensures.items
          ∙ ap (λ (e : Entry). c.args.self.now.copies.items ++ letter c.args.to.0 (copy_message c.args.segment.0 c.args.offset e) ∷ []) c.in_ok-entry.ensures;
      letters = (((omega (arith, c.requires.segment), omega (arith, c.requires.offset), c.requires.spelled.entry), omega (arith, size, small)), tt);
      space = λ sizes h.
          subst (λ (n : ℕ). HasSpace c.ready.new.self c.ready.new.out.rooms (sizes ++ n ∷ [])) (sym size) (c.in_ok-ready.ensures.space sizes h);
    }
