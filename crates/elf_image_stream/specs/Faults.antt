-- The fault of a call that only looks at bytes in memory, or only reads, as the fault that a public call returns.
use Rattle.elf_image_stream.specs.declared.fault.BytesFault.TheVariants.{OutOfMemory as NoRoom, Rule as Breaks}
use Rattle.elf_image_stream.specs.declared.fault.BytesFault.{BytesFault}
use Rattle.elf_image_stream.specs.declared.fault.Fault.TheVariants.{OutOfMemory, Io, Rule}
use Rattle.elf_image_stream.specs.declared.fault.Fault.{Fault}
use Rattle.elf_image_stream.specs.declared.fault.InputFault.TheVariants.{OutOfMemory as NoMemory, Io as FailedAt}
use Rattle.elf_image_stream.specs.declared.fault.InputFault.{InputFault}

abbrev pub bytes_fault : BytesFault → Fault
bytes_fault NoRoom = OutOfMemory
bytes_fault (Breaks rule at) = Rule rule at

abbrev pub input_fault : InputFault → Fault
input_fault NoMemory = OutOfMemory
input_fault (FailedAt at) = Io at
