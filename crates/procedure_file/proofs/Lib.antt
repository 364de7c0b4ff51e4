-- Laws: AcceptedLaws proves Accepted, FileInvariantLaws proves FileInvariant of every accepted file, SizeFirstLaws which answers Slip 5 changed.
pub mod BytesLaws
pub mod AcceptedLaws
pub mod TableLaws
pub mod FillLaws
pub mod FileNamesLaws
pub mod CheckLaws
pub mod FileInvariantLaws
pub mod LoadedLaws
pub mod SizeFirstLaws
