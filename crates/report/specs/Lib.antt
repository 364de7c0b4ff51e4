-- What program `both` prints. Definitions: Report; SizeFirst has its verdict before Slip 5. Laws: ReportLaws, SizeFirstLaws.
pub mod Report
pub mod SizeFirst
pub mod ReportLaws
pub mod SizeFirstLaws
