-- How a line ends the run where a frame is not sent.
use Rattle.tp_model.specs.declared.verdict.What.{What}
use Rattle.tp_network.specs.declared.fault.SendFault.{SendFault}
use Rattle.tp_world_sites.specs.declared.fault.WorldFault.{WorldFault}

abbrev pub sending_fault : SendFault → WorldFault
sending_fault SendFault.Full = WorldFault.Limit What.Frames
sending_fault SendFault.NoMemory = WorldFault.NoMemory
