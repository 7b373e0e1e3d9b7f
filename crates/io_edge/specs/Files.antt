-- The files of a store in memory.
use Rattle.std.specs.Prelude.{List, map}
use Rattle.io_edge.specs.Memory.{FileState}
use Rattle.io_edge.specs.declared.memory_files.MemFile.{MemFile}

-- what a file in memory says of itself
abbrev pub file_state : MemFile → FileState
file_state file = record { path = file.path.now; bytes = file.bytes.now; failing = file.fails.now }

-- what each file in memory says of itself
abbrev pub file_states : List MemFile → List FileState
file_states files = map file_state files
