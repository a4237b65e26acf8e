use Rattle.outside_real.proofs.any_rack.AnyRackRack.lend.Goals as goal

-- what the rack in memory says of other numbers
pub returns-clause-others : goal.returns-clause-others
returns-clause-others c = λ other apart.
    let stays = c.lend.ensures.others other apart in
    record { lent = stays.lent; only_lent = stays.only_lent; count = stays.count; disk = stays.disk }
