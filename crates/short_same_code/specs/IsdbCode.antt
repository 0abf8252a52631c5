-- The code of ISDB as one of constraint length 3 to 7.
use Rattle.short_code.specs.declared.Code.{Code}

abbrev pub isdb_code : Code
isdb_code = record { constraint = 7; g1 = 0o171; g2 = 0o133 }
