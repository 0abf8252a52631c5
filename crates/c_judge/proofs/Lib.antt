pub mod CallLaws
