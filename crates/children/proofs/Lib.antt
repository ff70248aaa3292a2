pub mod RecordRun
pub mod SettingLaws
pub mod FamilyLaws
pub mod KidLaws
pub mod BestLaws
pub mod FlownLaws
pub mod SurvivorLaws
