-- The cable that a function is lent, as the definitions have it.
use Rattle.cable_trace.specs.Answers.{cable_of}
use Rattle.cable_trace.specs.Cable as Cable
use Rattle.cable_trace.specs.declared.Cable as Lent

abbrev pub cable_in : Lent.Cable → Cable.Cable
cable_in c = cable_of c.settings c.response.now c.symbols.now c.training
