-- A ring's fault, as a joining reports it.
use Rattle.ring.specs.declared.RingFault.{RingFault}
use Rattle.ring.specs.declared.RingFault.TheVariants.{NoInverse as Without}
use Rattle.joining.specs.declared.JoiningFault.{JoiningFault}
use Rattle.joining.specs.declared.JoiningFault.TheVariants.{NoInverse}

abbrev pub fault_of : RingFault → JoiningFault
fault_of (Without a) = NoInverse a
