pub mod StartStates
