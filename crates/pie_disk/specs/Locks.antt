-- How a process that builds stands to the lock of the directory.
use Rattle.pie_disk.specs.declared.lock.Lock.{Lock}
use Rattle.pie_disk.specs.declared.lock.Lock.TheVariants.{Free, Wanted, Taken, Refused}

-- no lock is wanted, or it was taken
abbrev pub MayCall : Lock → Type 0
MayCall Free = Unit {0}
MayCall (Taken file) = Unit {0}
MayCall Wanted = ⊥
MayCall Refused = ⊥
