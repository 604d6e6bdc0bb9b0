-- The bitmap in force as code answers it.
use Rattle.rules.specs.Bitmap.{InForce}
use Rattle.handed_back.specs.declared.{Force.Force}

abbrev pub force_of : InForce → Force
force_of f = record { stored = f.stored; part = f.part }
