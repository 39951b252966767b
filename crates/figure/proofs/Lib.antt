pub mod Ahead
pub mod Numbers
pub mod Limits
pub mod Figures
pub mod FigureCall
pub mod LayerRules
pub mod Places
