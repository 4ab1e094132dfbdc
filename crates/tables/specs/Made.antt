-- What a plant of tables stands for.
use Rattle.plant.specs.Belts.{Belt}
use Rattle.plan.specs.Records.{Records}
use Rattle.tables.specs.declared.made.TablePlant.{TablePlant}
use Rattle.tables.specs.Clamped.{table_belt}

-- the records of its three tables
abbrev pub records_of : TablePlant → Records
records_of p = record { states = p.states.now; moves = p.moves.now; outcomes = p.outcomes.now }

-- the belt of its count, its start and those records
abbrev pub belt_of : TablePlant → Belt
belt_of p = table_belt p.head.count p.head.start (records_of p)
