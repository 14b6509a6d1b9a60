use Rattle.std.proofs.Common.{refl}
use Rattle.jobrecords.proofs.Records.{takes_programme, takes_layer, takes_override, takes_run}
use Rattle.jobrecords.proofs.take_record.Goals as goal

pub returns-in-Pg : goal.returns-in-Pg
returns-in-Pg c = let a = c.args in takes_programme a.j a.sizes.now a.slots.now a.«record» a.next c.requires.fine c.in-Pg.programme _ c.in-Pg.is refl

pub returns-in-Ly : goal.returns-in-Ly
returns-in-Ly c = let a = c.args in takes_layer a.j a.sizes.now a.slots.now a.«record» a.next c.requires.fine c.in-Ly.size _ c.in-Ly.is refl

pub returns-in-Sz : goal.returns-in-Sz
returns-in-Sz c = let a = c.args in takes_override a.j a.sizes.now a.slots.now a.«record» a.next c.requires.fine _ _ _ _ c.in-Sz.is refl

pub returns-in-Bw : goal.returns-in-Bw
returns-in-Bw c = let a = c.args in takes_run a.j a.sizes.now a.slots.now a.«record» a.next c.requires.fine c.in-Bw.count c.in-Bw.bytes _ c.put_run.new.slots c.in-Bw.is refl c.put_run.ensures
