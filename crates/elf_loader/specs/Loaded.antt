-- What is seen of a segment in memory.
use Rattle.elf_loader.specs.Segment.{Segment}
use Rattle.elf_loader.specs.declared.image.Loaded.{Loaded}

-- a loaded segment as its address, its size in memory and its bytes
abbrev pub segment_of : Loaded → Segment
segment_of loaded = record { address = loaded.address; size = loaded.size; bytes = loaded.bytes.items }
