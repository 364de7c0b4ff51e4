-- Laws and theorems: AcceptedLaws proves Accepted, TranslatedLaws proves Translated, SizeFirstLaws which answers Slip 5 changed, LoadedCodeLaws and PlaceLaws give what the controller cites.
pub mod RightLaws
pub mod ReadLaws
pub mod FormLaws
pub mod ExprLaws
pub mod CodeLaws
pub mod TablesLaws
pub mod CheckLaws
pub mod LoadedCodeLaws
pub mod PlaceLaws
pub mod WrittenLaws
pub mod ReadsBackLaws
pub mod BytesLaws
pub mod AcceptedLaws
pub mod TranslatedLaws
pub mod SizeFirstLaws
