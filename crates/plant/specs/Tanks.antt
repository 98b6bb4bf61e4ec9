-- What is in the tanks: document 01, "Lines in brackets": COD, TKN, oxygen and nitrate summed over all three tanks. TKN is
-- by the record's own figures (document 02, E7).
--
--   cod_in, tkn_in, oxygen_in, nitrate_in   what is in the tanks
use Rattle.std.specs.Prelude.{ℕ, ◌+◌}
use Rattle.vectors.specs.Totals.{asm1_cod, asm1_tkn, asm1_oxygen, asm1_nitrate, digester_cod, digester_tkn, digester_oxygen}
use Rattle.vectors.specs.Totals.{digester_nitrate}
use Rattle.plant.specs.declared.record.Plant.{Plant}

abbrev pub cod_in : Plant → ℕ
cod_in p = asm1_cod p.sludge + digester_cod p.digester + asm1_cod p.reject

abbrev pub tkn_in : Plant → ℕ
tkn_in p = asm1_tkn p.figures p.sludge + digester_tkn p.figures p.digester + asm1_tkn p.figures p.reject

abbrev pub oxygen_in : Plant → ℕ
oxygen_in p = asm1_oxygen p.sludge + digester_oxygen p.digester + asm1_oxygen p.reject

abbrev pub nitrate_in : Plant → ℕ
nitrate_in p = asm1_nitrate p.sludge + digester_nitrate p.digester + asm1_nitrate p.reject
