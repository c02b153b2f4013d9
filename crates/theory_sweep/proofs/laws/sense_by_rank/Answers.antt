-- The law is its lemma.
use Rattle.theory_sweep.proofs.SenseByRank as ranks
use Rattle.theory_sweep.proofs.laws.sense_by_rank.Goals as goal

pub returns : goal.returns
returns g = record {
  sense = λ d d_is loops apart are k es now front s back split s_in.
      ranks.sense_by_rank d d_is loops apart are k es now front s back split s_in;
}
