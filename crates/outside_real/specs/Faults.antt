-- The faults that each adapter has counted.
use Rattle.outside_real.specs.declared.bytes.RealIn.{RealIn}
use Rattle.outside_real.specs.declared.bytes.RealOut.{RealOut}
use Rattle.outside_real.specs.declared.disk.RealDisk.{RealDisk}
use Rattle.outside_real.specs.declared.faults.Faults.{Faults}
use Rattle.outside_real.specs.declared.files.RealFiles.{RealFiles}

abbrev pub files_faults : {A B C D : Type 0} → RealFiles A B C D → Faults
files_faults m = m.faults

abbrev pub disk_faults : {A B C D : Type 0} → RealDisk A B C D → Faults
disk_faults m = m.faults

abbrev pub in_faults : {T : Type 0} → RealIn T → Faults
in_faults m = m.faults

abbrev pub out_faults : {T : Type 0} → RealOut T → Faults
out_faults m = m.faults
