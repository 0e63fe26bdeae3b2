use Rattle.std.proofs.Common.{sym}
use Rattle.agc_machine.proofs.Stepping.{lawful_by, tidy_of}
use Rattle.agc_machine.proofs.words.begin.Goals as goal

pub returns : goal.returns
returns g c = record {
  lawful = lawful_by c.begin_era.new.e c.begin_era.ensures.ready;
  tidy = tidy_of c.begin_era.new.e c.begin_era.ensures.ready.sound;
  same_length = c.begin_era.ensures.same_length;
  stands = record { jobs = sym c.begin_era.ensures.stands.jobs_is; tasks = c.begin_era.ensures.stands.agenda; base = c.begin_era.ensures.same_base };
  placed = sym c.begin_era.ensures.stands.places_is;
}
