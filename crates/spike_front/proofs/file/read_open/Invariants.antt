use Rattle.std.proofs.Common.{◌≡◌, ◌≤◌, ◌-◌, Some, length, take, nat_lt, true}
use Rattle.folder_tree.specs.Tree.{Tree, opens_of, bytes_of}
use Rattle.spike_front.proofs.file.read_open.Given as goal

abbrev pub invariant-reads : goal.invariant-reads
invariant-reads g l = record {
  whole : length l.bytes.items ≡ l.size;
  within : l.count ≤ l.size;
  told : (t : Tree) → g.F.Folder.tree l.fn.folder ≡ Some t → l.size ≡ length (bytes_of t l.number) → take l.count l.bytes.items ≡ take l.count (bytes_of t l.number);
  tree : (t : Tree) → g.F.Folder.tree l.fn.folder ≡ Some t → g.F.Folder.tree l.folder ≡ Some t;
  faults : g.F.Folder.faults l.fn.folder ≤ g.F.Folder.faults l.folder;
  short : g.F.Folder.short l.fn.folder ≤ g.F.Folder.short l.folder;
  steady : (t : Tree) → g.F.Folder.tree l.fn.folder ≡ Some t → g.F.Folder.steady l.fn.folder → nat_lt 0 (opens_of t l.number) ≡ true → g.F.Folder.steady l.folder;
}

abbrev pub decreases-reads : goal.decreases-reads
decreases-reads g l = l.size - l.count
