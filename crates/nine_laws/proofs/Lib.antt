pub mod Every
pub mod NineLaws
