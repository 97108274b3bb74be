-- How a run ends: its exit code, and what the faults of its parts make of it.
use Rattle.std.specs.Prelude.{ℕ}
use Rattle.tp_journal.specs.declared.faults.StartFault.{StartFault as JournalFault}
use Rattle.tp_model.specs.declared.verdict.What.{What}
use Rattle.tp_site.specs.declared.faults.StartFault.{StartFault}
use Rattle.tp_streams.specs.declared.stop.Stop.{Stop}
use Rattle.tp_drive.specs.declared.driven.DriveFault.{DriveFault}
use Rattle.tp_drive_tool.specs.declared.status.Status.{Status}

abbrev pub code_of : Status → ℕ
code_of Status.Ok = 0
code_of Status.Usage = 2
code_of (Status.BadInput at why) = 3
code_of (Status.Limit what at) = 4
code_of (Status.Foreign at) = 5
code_of (Status.ReadFault faults) = 6
code_of (Status.WriteFault faults) = 7
code_of (Status.DiskFault faults) = 8
code_of Status.NoMemory = 9
code_of (Status.LogDiffers place receipt kept) = 10

-- how a run ends that such a stop ends
abbrev pub status_of : Stop → Status
status_of (Stop.BadInput at why) = Status.BadInput at why
status_of (Stop.Limit what at) = Status.Limit what at
status_of (Stop.Foreign at) = Status.Foreign at
status_of (Stop.ReadFault faults) = Status.ReadFault faults
status_of (Stop.WriteFault faults) = Status.WriteFault faults
status_of (Stop.DiskFault faults) = Status.DiskFault faults
status_of Stop.NoMemory = Status.NoMemory

-- how one ends whose log is not opened
abbrev pub unread_status : JournalFault → Status
unread_status (JournalFault.Foreign at) = Status.Foreign at
unread_status (JournalFault.DiskFault faults) = Status.DiskFault faults
unread_status JournalFault.NoMemory = Status.NoMemory

-- how one ends whose site does not start
abbrev pub start_status : StartFault → Status
start_status (StartFault.Foreign at) = Status.Foreign at
start_status StartFault.BootsSpent = Status.Limit What.Boots 0
start_status (StartFault.Full size) = Status.Limit What.Log 0
start_status (StartFault.DiskFault faults) = Status.DiskFault faults
start_status (StartFault.Shut faults) = Status.DiskFault faults
start_status StartFault.NoMemory = Status.NoMemory

-- how one ends whose workers did not do all events
abbrev pub driven_status : DriveFault → Status
driven_status (DriveFault.Start fault) = start_status fault
driven_status (DriveFault.LogDiffers place receipt kept) = Status.LogDiffers place receipt kept
driven_status (DriveFault.DiskFault faults) = Status.DiskFault faults
driven_status (DriveFault.Full size event) = Status.Limit What.Log event
driven_status DriveFault.NoMemory = Status.NoMemory
