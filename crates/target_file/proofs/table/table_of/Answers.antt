use Rattle.target_file.proofs.LoadedCodeLaws.{accepted_laid}
use Rattle.target_file.proofs.table.table_of.Goals as goal

pub tables_of-tables-requires : goal.tables_of-tables-requires
tables_of-tables-requires c = accepted_laid c.args.file.now c.requires
