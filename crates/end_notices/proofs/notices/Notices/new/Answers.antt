use Rattle.end_notices.proofs.notices.Notices.new.Goals as goal

pub returns : goal.returns
returns c = λ i.
    record {
      queries = λ id. c.new-queries.ensures id i;
      flushes = 0;
      met = λ k. c.new-met.ensures k i;
      waits = c.new.ensures i;
    }
