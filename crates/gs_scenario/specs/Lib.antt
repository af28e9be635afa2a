pub mod Refusal
pub mod Keys
pub mod Kinds
pub mod ParamsOf
pub mod TopicParamsOf
pub mod PlanOf
pub mod Views
pub mod ByKey
