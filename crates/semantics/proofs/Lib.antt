-- Laws and theorems: Theorem proves Statement, SlotStateLaws, DroppedLaws and TranslationRules its claims of the controller and the translation;
-- MergeLaws proves Merge, and AlikeLaws carries it over to the controller; VersionOneLaws proves VersionOne; SlotCountLaws is of SlotCount, PlaceLaws of
-- Places; Cases is computed.
pub mod ValueLaws
pub mod ListLaws
pub mod RunLaws
pub mod KeepLaws
pub mod SoundLaws
pub mod TranslationLaws
pub mod MatchingLaws
pub mod SlotLaws
pub mod Follow
pub mod FollowCall
pub mod Theorem
pub mod StopLaws
pub mod MergeLaws
pub mod AlikeLaws
pub mod PlaceLaws
pub mod SlotStateLaws
pub mod DroppedLaws
pub mod TranslationRules
pub mod SlotCountLaws
pub mod VersionOneLaws
pub mod Cases
