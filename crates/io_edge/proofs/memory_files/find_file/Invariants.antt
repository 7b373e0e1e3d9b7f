use Rattle.std.proofs.Common.{◌≡◌, drop}
use Rattle.io_edge.specs.Files.{file_states}
use Rattle.io_edge.specs.Memory.{file_at}
use Rattle.io_edge.proofs.memory_files.find_file.Given as goal

abbrev pub invariant-loop-file : goal.invariant-loop-file
invariant-loop-file l = file_at (file_states l.files) l.path ≡ file_at (file_states (drop l.file-index l.files)) l.path
