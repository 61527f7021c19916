-- The lists as the definitions have them.
use Rattle.readings.specs.Readings as Readings
use Rattle.readings.specs.declared.Lists as Lent

abbrev pub lists_in : Lent.Lists → Readings.Lists
lists_in l = Readings.lists_of l.y.now l.xi.now l.z.now l.theta.now
