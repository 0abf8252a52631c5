use Rattle.cases_fec.proofs.tail.Goals as goal

pub push-requires : goal.push-requires
push-requires c = tt
