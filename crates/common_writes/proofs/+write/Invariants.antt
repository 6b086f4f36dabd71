-- `common_writes::write`, which calls itself on what remains: at most one character fewer. Assumes nothing.
use Rattle.common_writes.proofs.+write.Given as goal

-- how many characters may still come
abbrev pub decreases-write : goal.decreases-write
decreases-write l = l.left
